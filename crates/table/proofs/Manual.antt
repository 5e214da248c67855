-- UM0080's rows behind DD and FD are the chip's, and the original's but for the order of the cycles at four codes; and which codes they are.
-- Assumes nothing.
use mathlib.Core.Path.{◌≡◌, refl}
use mathlib.Core.Bool.{false, not, ◌&&◌, ◌||◌}
use mathlib.Core.List.{map}
use Prim.Native.Nat.{ℕ, ◌%◌}
use lib.Dec.{eqb}
use lib.ListN.{get_or}
use Rattle.table.specs.Row.{Index, Row, gap}
use Rattle.table.specs.Departures.{late}
use Rattle.table.specs.Plain.{plain}
use Rattle.table.specs.Cb.{cb}
use Rattle.table.specs.Prefix.{behind_row}
use Rattle.table.specs.Chip.{chip_behind}
use Rattle.table.specs.Consequences.{values, listed, names_pair, moved}
use Rattle.table.specs.IndexPage.{index_page, index_bits}

-- each line of the manual's is the chip's row, the order of its cycles included
module _ (i : Index) (b3 : ℕ) where
  pub chip_rows_lem : map (λ (p : ℕ × Row). chip_behind i p.0 b3) (index_page i) ≡ map (λ (p : ℕ × Row). p.1) (index_page i)
  unfolding plain chip_behind
  chip_rows_lem = refl

pub chip_bits : (i : Index) → map (λ (p : ℕ × Row). chip_behind i 0xCB p.0) (index_bits i) ≡ map (λ (p : ℕ × Row). p.1) (index_bits i)
unfolding cb chip_behind
chip_bits i = refl

-- and the original's row, its first two cycles having changed places
module _ (i : Index) (b2 b3 : ℕ) where
  pub index_rows : map (λ (p : ℕ × Row). behind_row i p.0 b2 b3) (index_page i) ≡ map (λ (p : ℕ × Row). late p.1) (index_page i)
  unfolding plain behind_row
  index_rows = refl

  pub index_bits_lem : map (λ (p : ℕ × Row). behind_row i 0xCB b2 p.0) (index_bits i) ≡ map (λ (p : ℕ × Row). late p.1) (index_bits i)
  unfolding cb behind_row
  index_bits_lem = refl

-- which makes a difference at INC, DEC, PUSH and LD SP, and nowhere else
module _ (i : Index) where
  pub index_order : map (λ (p : ℕ × Row). moved p.1) (index_page i) ≡ map (λ (p : ℕ × Row). eqb p.0 0x23 || (eqb p.0 0x2B || (eqb p.0 0xE5 || eqb p.0 0xF9))) (index_page i)
  index_order = refl

  pub bits_order : map (λ (p : ℕ × Row). moved p.1) (index_bits i) ≡ map (λ (p : ℕ × Row). false) (index_bits i)
  bits_order = refl

-- the manual has a row at each code whose plain row names HL or (HL), but for EX DE,HL
pub index_codes : (i : Index) → values (λ (b : ℕ). listed b (index_page i)) 0 256 ≡ values (λ (b : ℕ). names_pair (get_or plain b gap) && not (eqb b 0xEB)) 0 256
unfolding plain
index_codes i = refl

-- and behind DD CB d at each code of (HL), but for SLL
pub bits_codes : (i : Index) → values (λ (b : ℕ). listed b (index_bits i)) 0 256 ≡ values (λ (b : ℕ). eqb (b % 8) 6 && not (eqb b 0x36)) 0 256
bits_codes i = refl
