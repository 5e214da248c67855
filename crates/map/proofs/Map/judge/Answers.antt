-- A row that the decoder sees in the window fits in.
use Rattle.std.proofs.Common.{◌≡◌, ℕ, ◌+◌, ◌≤◌, length, drop, sym, ap, ◌∙◌}
use Rattle.std.specs.Prelude.{Option, None, Some, IfSome}
use Rattle.table.specs.declared.Mode.{Mode}
use Rattle.table.specs.declared.Decoded.{Decoded}
use Rattle.image.specs.Places.{window}
use Rattle.marking.specs.declared.View.{View}
use Rattle.marking.specs.Rules.{Chart}
use Rattle.marking.proofs.Turns.{row_room}
use Rattle.flow.specs.Flow.{view_of, look_of}
use Rattle.flow.proofs.Sane.{sane}
use Rattle.map.specs.Chart.{chart_of}
use Rattle.map.proofs.Map.judge.Goals as goal

in_room : (mode : Mode) (m : Chart) (i : ℕ) (seen : Option View) → look_of mode (m.origin + i) (window (drop i m.image)) ≡ seen → IfSome seen (λ row. (1 ≤ row.length) × (i + row.length ≤ length m.image))
in_room mode m i None e = tt
in_room mode m i (Some row) e = let room = row_room (look_of mode) (sane mode) m i row.length row.flow e in (room.least, room.ends)

pub judge_start-requires-clause-row_in_bounds : goal.judge_start-requires-clause-row_in_bounds
unfolding look_of
judge_start-requires-clause-row_in_bounds c =
    let s = c.args in
    let m = chart_of s.self.now in
    let sees = (rw (c.address_of-address.ensures.inside c.requires) at c.view.ensures) ∙ ap (λ (d : Decoded). view_of (m.origin + s.place) d) c.decode_at.ensures in
    in_room s.mode m s.place _ (sym sees)
