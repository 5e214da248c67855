-- A text written to lent bytes from a place on, as far as there is room. Definitions only.
use Rattle.std.specs.Prelude.{ℕ, zero, suc, ◌≡◌, List, [], ◌∷◌}

-- the bytes with the text over them from the place on
abbrev pub over : List ℕ → ℕ → List ℕ → List ℕ
over [] i t = []
over (b ∷ bs) (suc i) t = b ∷ over bs i t
over (b ∷ bs) zero [] = b ∷ bs
over (b ∷ bs) zero (x ∷ t) = x ∷ over bs zero t

-- the place behind what was written
abbrev pub behind : List ℕ → ℕ → List ℕ → ℕ
behind [] i t = i
behind (b ∷ bs) (suc i) t = suc (behind bs i t)
behind (b ∷ bs) zero [] = zero
behind (b ∷ bs) zero (x ∷ t) = suc (behind bs zero t)

-- the text t, written over the bytes `old` from the place i on, makes them `new` and ends at the place j
pub record Wrote (old : List ℕ) (i : ℕ) (t : List ℕ) (new : List ℕ) (j : ℕ) : Type 0 where
  pub bytes : new ≡ over old i t
  pub place : j ≡ behind old i t
