-- One element more, where each has its text. Assumes nothing.
use mathlib.Core.Path.{◌≡◌, sym, ap, ◌∙◌}
use mathlib.Core.List.{List, [], ◌∷◌, ◌++◌, append_assoc, append-nil}
use Prim.Native.Nat.{ℕ, suc, ◌+◌, ◌<◌}
use native.Mathlib.Numerals.{add-one}
use lib.ListN.{length, take, get_or}
use lib.Seq.{take-suc}
use Rattle.wording.specs.Text.{each}
use Rattle.writer.specs.declared.Writer.{Writer}
use Rattle.writer.specs.Puts.{Puts}
use Rattle.writer.proofs.Laws.{◌⟫◌, put_told}

module _ {A : Type 0} (f : A → List ℕ) where
  each_last : (xs : List A) (x : A) → each f (xs ++ (x ∷ [])) ≡ each f xs ++ f x
  each_last [] x = append-nil (f x)
  each_last (a ∷ xs) x = ap (λ (l : List ℕ). f a ++ l) (each_last xs x) ∙ sym (append_assoc (f a) (each f xs) (f x))

  pub each_more : (xs : List A) (i : ℕ) (d : A) → i < length xs → each f (take i xs) ++ f (get_or xs i d) ≡ each f (take (suc i) xs)
  each_more xs i d h = sym (ap (each f) (take-suc xs i d h) ∙ each_last (take i xs) (get_or xs i d))

  -- a loop that writes the text of each element has written those of one more
  pub each_turn : {a b w : Writer} (xs : List A) (i : ℕ) (d : A) → i < length xs → Puts w (each f (take i xs)) a → Puts a (f (get_or xs i d)) b → Puts w (each f (take (i + 1) xs)) b
  each_turn xs i d h p q = rw add-one (put_told (each_more xs i d h) (p ⟫ q))
