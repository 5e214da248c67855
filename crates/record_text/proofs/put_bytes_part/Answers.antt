-- What is left begins with the byte that is written, and in the end is nothing.
use Rattle.std.proofs.Common.{◌≡◌, ◌<◌, arith, add-one, length, List, [], ◌∷◌, ◌++◌, refl, take, zero, suc, ℕ}
use Rattle.wording.specs.Text.{each, byte_text}
use Rattle.writer.proofs.Laws.{◌⟫◌, put_none, put_told}
use Rattle.record_text.proofs.put_bytes_part.Goals as goal

none_left : {X : Type 0} (n : ℕ) (xs : List ℕ) → (0 < n → (length xs ≡ 0) × X) → [] ≡ each byte_text (take n xs)
none_left zero xs end = refl
none_left (suc n) [] end = refl
none_left (suc n) (x ∷ xs) end = absurd (omega (arith, (end (omega arith)).0))

pub loop-b-init : goal.loop-b-init
loop-b-init c = λ w p. rw (c.into_iter-b-iterator.ensures.into_iter_gives, c.take-b-items.ensures.count, c.take-b-items.ensures.source, c.iter.ensures.rest) at p

pub loop-b-preserved : goal.loop-b-preserved
loop-b-preserved c = λ w p.
    let some = c.in-Some.ensures.steps in
    let left : byte_text c.in-Some.b.now ++ each byte_text (take c.next.new.self.n c.next.new.self.iter.rest.now) ≡ each byte_text (take c.loop-b.b-iterator.n c.loop-b.b-iterator.iter.rest.now) = rw (some.0, ← some.1, add-one) refl in
    c.loop-b.invariant w (put_told left (c.put_hex8.ensures ⟫ c.put.ensures ⟫ p))

pub returns : goal.returns
returns c = c.loop-b.invariant _ (put_told (none_left _ _ c.in-None.ensures.steps) (put_none _)) ⟫ c.put_bytes.ensures
