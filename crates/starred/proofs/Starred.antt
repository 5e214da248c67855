-- Every starred row holds, and every row that document 02 names, in the Rust's mode; and the chip's rows in its own. Assumes nothing.
use mathlib.Core.Path.{refl}
use mathlib.Core.List.{[], ◌∷◌}
use Rattle.opcode.specs.Record.{sum}
use Rattle.table.specs.Signed.{signed_of, relative_of}
use Rattle.table.specs.Plain.{plain}
use Rattle.table.specs.Cb.{cb}
use Rattle.table.specs.Ed.{ed}
use Rattle.table.specs.Prefix.{behind_row}
use Rattle.table.specs.declared.Mode.{Mode}
use Rattle.table.specs.Decode.{page_row, row_of}
use Rattle.table.specs.Chip.{chip_behind, chip_row_of, decode_in}
use Rattle.marking.specs.Rules.{chart}
use Rattle.marking.specs.Check.{is_start, wrong_count, judged_by, judged_at, pass, check_of}
use Rattle.marking.proofs.Right.{check_right}
use Rattle.flow.specs.Flow.{relative_to, look_of}
use Rattle.flow.proofs.Sane.{sane}
use Rattle.starred.specs.Starred.{starred, requested, chip_rows, All}

pub all_starred : All Mode.Rust starred
unfolding signed_of relative_of plain cb ed behind_row page_row row_of decode_in sum is_start wrong_count judged_by judged_at pass check_of relative_to look_of
all_starred = (refl, (refl, (refl, (refl, (refl, (refl, (refl, (refl, (refl, (refl, (refl, (refl, (refl, (refl, (refl, (λ b0 b1 b2 b3 b4. refl, (check_right (look_of Mode.Rust) (sane Mode.Rust) (chart (0x18 ∷ 0xFE ∷ []) 0 (1 ∷ 2 ∷ [])) (0 ∷ 0 ∷ []), tt)))))))))))))))))

pub all_requested : All Mode.Rust requested
unfolding signed_of relative_of plain cb ed behind_row page_row row_of decode_in sum
all_requested = (refl, (refl, (refl, (refl, (refl, (refl, (refl, (refl, (refl, tt)))))))))

pub all_chip : All Mode.Chip chip_rows
unfolding signed_of relative_of plain cb ed page_row chip_behind chip_row_of decode_in sum is_start wrong_count judged_by judged_at pass check_of relative_to look_of
all_chip = (refl, (refl, (refl, (refl, (refl, (refl, (refl, (refl, (refl, (refl, (refl, (refl, (refl, (refl, (refl, (refl, (refl, (check_right (look_of Mode.Chip) (sane Mode.Chip) (chart (0xDD ∷ 0x23 ∷ 0xC9 ∷ []) 0 (1 ∷ 2 ∷ 1 ∷ [])) (0 ∷ 0 ∷ []), tt))))))))))))))))))
