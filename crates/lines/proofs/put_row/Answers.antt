-- Its line and its bytes are of the record that the window decodes to.
use Rattle.std.proofs.Common.{◌≡◌, ℕ, ◌+◌, List, drop, get_or, refl}
use Rattle.table.specs.declared.Decoded.{Decoded}
use Rattle.table.specs.declared.Mode.{Mode}
use Rattle.table.specs.Chip.{decode_in}
use Rattle.writer.proofs.Laws.{put_told}
use Rattle.line.specs.Line.{line_by}
use Rattle.image.specs.Places.{window}
use Rattle.listing.specs.Rows.{line_of, passed_of}
use Rattle.window.proofs.Inside.{first_at}
use Rattle.lines.proofs.put_row.Goals as goal

is_line : (mode : Mode) (image : List ℕ) (origin place : ℕ) (d : Decoded) → d ≡ decode_in mode (window (drop place image)) → line_by d.answer (origin + place) d.rec (get_or image place 0) ≡ line_of mode (origin + place) (window (drop place image))
unfolding line_of
is_line mode image origin place d e = rw (e, first_at place image) refl

pub returns-clause-wrote : goal.returns-clause-wrote
returns-clause-wrote c = put_told (is_line c.args.mode c.args.image.now.bytes.now c.args.image.now.origin c.args.place _ c.decode_at-decoded.ensures) (rw (c.address_of.ensures.inside c.requires) at c.put_line.ensures)

pub returns-clause-passed : goal.returns-clause-passed
unfolding passed_of
returns-clause-passed c = rw c.decode_at-decoded.ensures at c.passed.ensures
