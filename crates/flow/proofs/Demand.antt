-- Demand 3 for this decoder, in either mode: the theorems of `marking` cited. Assumes nothing else than what a walk presumes.
-- Presumed, by what a walk is (`marking`'s specs/Walk.antt): code is not written to (`step`), returns go back to where their calls left off (`back`), interrupts are not counted (`move`).
use Rattle.std.proofs.Common.{◌≡◌, ℕ, ◌+◌, ◌<◌, ◌≤◌, Bool, ◌↔◌, List, [], refl, ap}
use Rattle.opcode.specs.declared.record.OpCode.{OpCode}
use Rattle.table.specs.declared.Answer.{Answer}
use Rattle.table.specs.declared.Mode.{Mode}
use Rattle.table.specs.Chip.{decode_in}
use Rattle.image.specs.Places.{window_at}
use Rattle.marking.specs.declared.Flow.{Flow}
use Rattle.std.specs.Prelude.{Option, None, Some}
use Rattle.marking.specs.declared.View.{View}
use Rattle.marking.specs.Rules.{Chart, row_of, entries, entry, RowAt, Passes}
use Rattle.marking.specs.Verdict.{Checked, number_of, address_of, Verdict}
use Rattle.marking.specs.Walk.{State, standing, left, returned, lost, walk}
use Rattle.marking.specs.Check.{check_of}
use Rattle.marking.specs.Consequences.{Allowed}
use Rattle.marking.proofs.Right.{check_right}
use Rattle.marking.proofs.One.{check_only, done_exactly}
use Rattle.marking.proofs.Walks.{walk_allowed, one_instruction}
use Rattle.flow.specs.Flow.{flow_of, view_by, look_of}
use Rattle.flow.specs.Consequences.{LeavesBy}
use Rattle.flow.proofs.Sane.{sane}
use Rattle.flow.proofs.Ends.{register_jumps}

-- what is said of a window that is a row, and its flow
abbrev flow_in : Option View → Flow
flow_in None = Flow.After
flow_in (Some v) = v.flow

seen : (x : Answer) (a : ℕ) (r : OpCode) (n : ℕ) (f : Flow) → view_by x a r ≡ row_of n f → (x ≡ Answer.Done) × (flow_of a r ≡ f)
seen Answer.Done a r n f e = (refl, ap flow_in e)
seen x a r n f e = absurd (cc e)

-- a walk that has left did so at a JP with HL, IX or IY
leaves : (mode : Mode) (m : Chart) (s : State) → Allowed (look_of mode) m s → LeavesBy mode m s
unfolding look_of
leaves mode m (standing a calls) w = tt
leaves mode m (left a) (n, w) =
    let s = window_at m.image m.origin a in
    let (done, f) = seen (decode_in mode s).answer a (decode_in mode s).rec n Flow.RegisterJump w.marked.row in
    register_jumps mode a s done f
leaves mode m (returned a) w = tt
leaves mode m (lost a) w = tt

module _ (mode : Mode) (m : Chart) (es : List ℕ) where
  -- the answer is the one that document 01 names
  pub map_named : Verdict (look_of mode) m es (number_of (check_of (look_of mode) m es)) (address_of (check_of (look_of mode) m es))
  map_named = check_right (look_of mode) (sane mode) m es

  -- no other fits
  pub map_only : (x : Checked) → Verdict (look_of mode) m es (number_of x) (address_of x) → x ≡ check_of (look_of mode) m es
  map_only = check_only (look_of mode) (sane mode) m es

  -- it is 0 exactly when none of 5 to 13 holds
  pub map_passes : (number_of (check_of (look_of mode) m es) ≡ 0) ↔ Passes (look_of mode) m es
  map_passes = done_exactly (look_of mode) (sane mode) m es

  module _ (passed : number_of (check_of (look_of mode) m es) ≡ 0) where
    -- from any entry, a walk of any length stands on a whole marked instruction, or has ended at a register jump or at a return with no call open
    pub map_walks : (j : ℕ) → j < entries es → (bs : List Bool) → Allowed (look_of mode) m (walk (look_of mode) m.image m.origin bs (standing (entry es j) []))
    map_walks = walk_allowed (look_of mode) (sane mode) m es (map_passes.0 passed)

    -- demand 3: and a register jump is a JP with HL, IX or IY, nothing else
    pub demand_3 :
        (j : ℕ) → j < entries es → (bs : List Bool)
        → let s = walk (look_of mode) m.image m.origin bs (standing (entry es j) []) in
        Allowed (look_of mode) m s × LeavesBy mode m s
    demand_3 j h bs =
        let s = walk (look_of mode) m.image m.origin bs (standing (entry es j) []) in
        let w = map_walks j h bs in
        (w, leaves mode m s w)

    -- no byte belongs to two marked instructions
    pub map_apart : (s t n k b : ℕ) (f g : Flow) → RowAt (look_of mode) m s n f → RowAt (look_of mode) m t k g → s ≤ b → b < s + n → t ≤ b → b < t + k → s ≡ t
    map_apart = one_instruction (look_of mode) (sane mode) m es (map_passes.0 passed)
