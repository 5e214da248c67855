-- The laws of writing behind a place. Assumes nothing.
use mathlib.Core.Path.{◌≡◌, refl, sym, ap, ◌∙◌}
use mathlib.Core.List.{List, [], ◌∷◌, ◌++◌}
use Prim.Native.Nat.{ℕ, zero, suc, ◌+◌, ◌≤◌, ◌<◌}
use native.Mathlib.Numerals.{add-one}
use native.Mathlib.Omega.{arith}
use lib.ListN.{length, set, take, drop}
use lib.Seq.{take-append_seam}
use Rattle.writer.specs.Wrote.{over, behind, Wrote}
use Rattle.writer.specs.Puts.{Puts}
use Rattle.writer.specs.declared.Writer.{Writer}

over_one : (old : List ℕ) (i b : ℕ) → i < length old → (set old i b ≡ over old i (b ∷ [])) × (suc i ≡ behind old i (b ∷ []))
over_one [] i b h = absurd (omega arith)
over_one (x ∷ []) zero b h = (refl, refl)
over_one (x ∷ y ∷ old) zero b h = (refl, refl)
over_one (x ∷ old) (suc i) b h = let e = over_one old i b (omega arith) in (ap (λ (l : List ℕ). x ∷ l) e.0, ap suc e.1)

over_full : (old : List ℕ) (i : ℕ) (t : List ℕ) → length old ≤ i → (old ≡ over old i t) × (i ≡ behind old i t)
over_full [] i t h = (refl, refl)
over_full (x ∷ old) zero t h = absurd (omega arith)
over_full (x ∷ old) (suc i) t h = let e = over_full old i t (omega arith) in (ap (λ (l : List ℕ). x ∷ l) e.0, ap suc e.1)

over_none : (old : List ℕ) (i : ℕ) → (old ≡ over old i []) × (i ≡ behind old i [])
over_none [] i = (refl, refl)
over_none (x ∷ old) zero = (refl, refl)
over_none (x ∷ old) (suc i) = let e = over_none old i in (ap (λ (l : List ℕ). x ∷ l) e.0, ap suc e.1)

over_twice : (old : List ℕ) (i : ℕ) (s t : List ℕ) → (over (over old i s) (behind old i s) t ≡ over old i (s ++ t)) × (behind (over old i s) (behind old i s) t ≡ behind old i (s ++ t))
over_twice [] i s t = (refl, refl)
over_twice (x ∷ old) (suc i) s t = let e = over_twice old i s t in (ap (λ (l : List ℕ). x ∷ l) e.0, ap suc e.1)
over_twice (x ∷ old) zero [] t = (refl, refl)
over_twice (x ∷ old) zero (a ∷ s) t = let e = over_twice old zero s t in (ap (λ (l : List ℕ). a ∷ l) e.0, ap suc e.1)

over_length : (old : List ℕ) (i : ℕ) (t : List ℕ) → length (over old i t) ≡ length old
over_length [] i t = refl
over_length (x ∷ old) (suc i) t = ap suc (over_length old i t)
over_length (x ∷ old) zero [] = refl
over_length (x ∷ old) zero (a ∷ t) = ap suc (over_length old zero t)

over_front : (old t : List ℕ) → length t ≤ length old → (over old 0 t ≡ t ++ drop (length t) old) × (behind old 0 t ≡ length t)
over_front old [] h = let e = over_none old 0 in (sym e.0, sym e.1)
over_front [] (a ∷ t) h = absurd (omega arith)
over_front (x ∷ old) (a ∷ t) h = let e = over_front old t (omega arith) in (ap (λ (l : List ℕ). a ∷ l) e.0, ap suc e.1)

-- a store is one byte written
pub one : (old : List ℕ) (i b : ℕ) → i < length old → Wrote old i (b ∷ []) (set old i b) (i + 1)
one old i b h = record { bytes = (over_one old i b h).0; place = rw add-one (over_one old i b h).1 }

-- where there is no room nothing is written, whatever the text
pub full : (old t : List ℕ) (i : ℕ) → length old ≤ i → Wrote old i t old i
full old t i h = record { bytes = (over_full old i t h).0; place = (over_full old i t h).1 }

pub none : (old : List ℕ) (i : ℕ) → Wrote old i [] old i
none old i = record { bytes = (over_none old i).0; place = (over_none old i).1 }

-- a text behind another is both of them joined
pub ◌▸◌ : {a b d : List ℕ} {i j k : ℕ} {s t : List ℕ} → Wrote a i s b j → Wrote b j t d k → Wrote a i (s ++ t) d k
◌▸◌ {a} {b} {d} {i} {j} {k} {s} {t} p q =
    let e = over_twice a i s t in
    record {
      bytes = q.bytes ∙ ap (λ (l : List ℕ). over l j t) p.bytes ∙ ap (λ (n : ℕ). over (over a i s) n t) p.place ∙ e.0;
      place = q.place ∙ ap (λ (l : List ℕ). behind l j t) p.bytes ∙ ap (λ (n : ℕ). behind (over a i s) n t) p.place ∙ e.1;
    }

infixl 5 ◌▸◌
pub size : {old new t : List ℕ} {i j : ℕ} → Wrote old i t new j → length new ≡ length old
size {old} {new} {t} {i} p = ap length p.bytes ∙ over_length old i t

-- a text that is written from the front, and fits, stands there; what it ends at is its length
module _ {old t new : List ℕ} {j : ℕ} (p : Wrote old 0 t new j) (h : length t ≤ length old) where
  pub whole : new ≡ t ++ drop (length t) old
  whole = p.bytes ∙ (over_front old t h).0

  pub counted : j ≡ length t
  counted = p.place ∙ (over_front old t h).1

  pub front : take j new ≡ t
  front = ap (take j) whole ∙ ap (λ (n : ℕ). take n (t ++ drop (length t) old)) counted ∙ take-append_seam t (drop (length t) old)

  pub filled : j ≡ length (take j new)
  filled = counted ∙ sym (ap length front)

-- The same through a writer: nothing, and a text behind another.
pub put_none : (w : Writer) → Puts w [] w
put_none w = record { same = refl; wrote = none w.buf.now w.at }

pub ◌⟫◌ : {a b d : Writer} {s t : List ℕ} → Puts a s b → Puts b t d → Puts a (s ++ t) d
p ⟫ q = record { same = q.same ∙ p.same; wrote = p.wrote ▸ q.wrote }

infixl 5 ◌⟫◌
-- the same text, told otherwise
pub put_told : {a b : Writer} {s t : List ℕ} → s ≡ t → Puts a s b → Puts a t b
put_told e p = rw (← e) p
