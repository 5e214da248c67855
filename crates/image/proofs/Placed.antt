-- An image that was made of bytes, and the place in it that was found of an address. Assumes nothing.
use Rattle.std.specs.Prelude.{◌≡◌, ℕ, ◌+◌, ◌-◌, false, List, Option, Some, IfSome, is_none}
use Rattle.std.proofs.Common.{arith, sym}
use Rattle.image.specs.declared.Image.{Image}
use Rattle.image.specs.Places.{wrong_size, outside}

pub record Placed (bytes : List ℕ) (origin address : ℕ) (i : Image) (place : ℕ) : Type 0 where
  pub bytes_are : i.bytes.now ≡ bytes
  pub origin_is : i.origin ≡ origin
  pub size : wrong_size i.bytes.now i.origin ≡ false
  pub inside : outside i.bytes.now i.origin address ≡ false
  pub found : i.origin + place ≡ address
  pub place_is : address - i.origin ≡ place

pub placed : {bytes : List ℕ} {origin address : ℕ} {made : Option Image} {there : Option ℕ} {i : Image} {place : ℕ} → made ≡ Some i → is_none made ≡ wrong_size bytes origin → IfSome made (λ i. (i.bytes.now ≡ bytes) × (i.origin ≡ origin)) → there ≡ Some place → is_none there ≡ outside i.bytes.now i.origin address → IfSome there (λ p. i.origin + p ≡ address) → Placed bytes origin address i place
placed {i = i} {place = place} m refused kept t out found =
    let same = rw m at kept in
    let at = rw t at found in
    let size = rw m at refused in
    record {
      bytes_are = same.0;
      origin_is = same.1;
      size = rw (same.0, same.1) (sym size);
      inside = sym (rw t at out);
      found = at;
      place_is = omega (arith, at);
    }
