-- What chunks of two bytes come to are the entries. Assumes nothing.
use Rattle.std.proofs.Common.{◌≡◌, ℕ, ◌+◌, ◌*◌, ◌<◌, List, [], ◌∷◌, ◌++◌, map, length, get_or, refl, ap, ◌∙◌, arith}
use Rattle.std.specs.declared.slice.ChunksExact.{ChunksExact}
use Rattle.std.specs.Slice.Iter.{chunks_exact_size, chunks_exact_rest, chunks_exact_steps}
use Rattle.std.proofs.lemmas.Iterator.{YieldsList}
use Rattle.std.proofs.lemmas.Iterator.Splits.{YieldsList-from_shown_while}
use Rattle.marking.specs.Check.{addresses}

abbrev pub pairs : List ℕ → List (List ℕ)
pairs [] = []
pairs (low ∷ []) = []
pairs (low ∷ high ∷ es) = (low ∷ high ∷ []) ∷ pairs es

abbrev pub address : List ℕ → ℕ
address pair = get_or pair 0 0 + get_or pair 1 0 * 256

pub map-pairs : (es : List ℕ) → map address (pairs es) ≡ addresses es
map-pairs [] = refl
map-pairs (low ∷ []) = refl
map-pairs (low ∷ high ∷ es) = let e : low + high * 256 ≡ low + 256 * high = omega arith in rw e (ap (λ (xs : List ℕ). (low + 256 * high) ∷ xs) (map-pairs es))

-- fewer than two bytes are no pair, and two are one
none : (es : List ℕ) → length es < 2 → length (pairs es) ≡ 0
none [] h = refl
none (low ∷ []) h = refl
none (low ∷ high ∷ es) h = absurd (omega arith)

some : (pair es : List ℕ) → length pair ≡ 2 → pairs (pair ++ es) ≡ pair ∷ pairs es
some [] es h = absurd (omega arith)
some (low ∷ []) es h = absurd (omega arith)
some (low ∷ high ∷ []) es h = refl
some (low ∷ high ∷ x ∷ xs) es h = absurd (omega arith)

pub YieldsList-from_pairs : (s : ChunksExact ℕ) → chunks_exact_size s ≡ 2 → YieldsList (chunks_exact_steps {A = ℕ}) (λ pair. pair.now) s (pairs (chunks_exact_rest s))
YieldsList-from_pairs =
    YieldsList-from_shown_while (chunks_exact_steps {A = ℕ}) (λ pair. pair.now) (λ s. pairs (chunks_exact_rest s)) (λ s. chunks_exact_size s ≡ 2)
    (λ s t two step. none (chunks_exact_rest s) (omega (arith, two, step.1.0)))
    (λ s x t two step. (step.0 ∙ two, ap pairs step.1.0 ∙ some x.now (chunks_exact_rest t) (step.1.1 ∙ two)))
