-- A text made in a line of its own and given from there is given as it is. Assumes nothing.
use mathlib.Core.Path.{◌≡◌, refl, sym, ap, ◌∙◌}
use mathlib.Core.Bool.{Bool, true, false, cond}
use mathlib.Core.List.{List, ◌++◌}
use Rattle.std.specs.Prelude.{Option, Some, None}
use Prim.Native.Nat.{ℕ, ◌≤◌}
use lib.Dec.{leb}
use lib.ListN.{length, take, drop}
use Rattle.writer.specs.Wrote.{Wrote}
use Rattle.writer.proofs.Laws.{front}

-- the lent bytes once a text is given
abbrev pub left : List ℕ → List ℕ → List ℕ
left out t = cond (leb (length t) (length out)) (t ++ drop (length t) out) out

-- its count, or that it has no room
abbrev pub count : List ℕ → List ℕ → Option ℕ
count out t = cond (leb (length t) (length out)) (Some (length t)) None

given_some : (fits : Bool) (n k : ℕ) → cond fits (Some n) None ≡ Some k → (fits ≡ true) × (k ≡ n)
given_some true n k e = (refl, cc)
given_some false n k e = cc

given_none : (fits : Bool) (n : ℕ) → cond fits (Some n) None ≡ None → fits ≡ false
given_none true n e = cc
given_none false n e = refl

-- a text t in a line of n bytes
module _ {old line t : List ℕ} {n : ℕ} (w : Wrote old 0 t line n) (room : length t ≤ length old) where
  pub whether : {answer : Option ℕ} (out : List ℕ) → answer ≡ count out (take n line) → answer ≡ count out t
  whether out e = e ∙ ap (count out) (front w room)

  pub fitted : {answer : Option ℕ} {k : ℕ} (out : List ℕ) → answer ≡ count out (take n line) → answer ≡ Some k → (leb (length t) (length out) ≡ true) × (k ≡ length t)
  fitted {k = k} out e some = given_some (leb (length t) (length out)) (length t) k (sym (whether out e) ∙ some)

  pub refused : {answer : Option ℕ} (out : List ℕ) → answer ≡ count out (take n line) → answer ≡ None → leb (length t) (length out) ≡ false
  refused out e none = given_none (leb (length t) (length out)) (length t) (sym (whether out e) ∙ none)

  pub becomes : {new : List ℕ} (out : List ℕ) → new ≡ left out (take n line) → new ≡ left out t
  becomes out e = e ∙ ap (left out) (front w room)
