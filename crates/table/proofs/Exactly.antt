-- In either mode the answer is Short or Done exactly when the table of numbers says so.
-- Assumes nothing.
use mathlib.Core.Path.{◌≡◌, refl, sym, ap, ◌∙◌}
use mathlib.Core.Logic.{◌↔◌}
use mathlib.Core.List.{List}
use Prim.Native.Nat.{ℕ, ◌<◌, ◌≤◌}
use native.Mathlib.Omega.{arith}
use lib.ListN.{length}
use Rattle.table.specs.declared.Answer.{Answer}
use Rattle.table.specs.declared.Mode.{Mode}
use Rattle.table.specs.Decode.{number_of}
use Rattle.table.specs.Chip.{reading_of, decode_in}
use Rattle.table.specs.Consequences.{AllBytes, TooFew, ShortWhen, DoneWhen}
use Rattle.table.proofs.Answers.{rust_few, nothing_exactly, long_exactly, short_below}
use Rattle.table.proofs.ChipShort.{chip_few}

few_exactly : (m : Mode) (s : List ℕ) → AllBytes s → 1 ≤ length s → length s ≤ 3 → (length s < (reading_of m).needed s) ↔ TooFew m s
few_exactly Mode.Rust s bytes some few = rust_few s bytes some few
few_exactly Mode.Chip s bytes some few = chip_few s bytes some

module _ (m : Mode) (s : List ℕ) (bytes : AllBytes s) where
  -- 2, Short: one to three bytes that decide no row
  pub short_exactly : (number_of (decode_in m s).answer ≡ 2) ↔ ShortWhen m s
  short_exactly = (
    λ e. let (some, few, less) = (short_below m s).0 e in (some, few, (few_exactly m s bytes some few).0 less),
    λ (some, few, why). (short_below m s).1 (some, few, (few_exactly m s bytes some few).1 why),
  )

  -- 0, Done: otherwise
  pub done_exactly : ((decode_in m s).answer ≡ Answer.Done) ↔ DoneWhen m s
  done_exactly = (to, from)
    where
      to : (decode_in m s).answer ≡ Answer.Done → DoneWhen m s
      to e = (
        λ w. omega (arith, ap number_of (sym ((nothing_exactly m s).1 w) ∙ e)),
        λ w. omega (arith, short_exactly.1 w, ap number_of e),
        λ w. omega (arith, ap number_of (sym ((long_exactly m s).1 w) ∙ e)),
      )

      by_answer : (a : Answer) → (decode_in m s).answer ≡ a → DoneWhen m s → (decode_in m s).answer ≡ Answer.Done
      by_answer Answer.Done e w = e
      by_answer Answer.Nothing e w = absurd (w.0 ((nothing_exactly m s).0 e))
      by_answer (Answer.Short k) e w = absurd (w.1 (short_exactly.0 (ap number_of e)))
      by_answer Answer.Long e w = absurd (w.2 ((long_exactly m s).0 e))

      from : DoneWhen m s → (decode_in m s).answer ≡ Answer.Done
      from = by_answer (decode_in m s).answer refl
