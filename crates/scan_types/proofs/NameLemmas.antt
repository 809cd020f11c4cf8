use Rattle.std.proofs.Common.{ℕ, ◌≡◌, ◌≤◌, List, ◌++◌, length, drop, replicate, refl, sym, ap}
use Rattle.std.proofs.Math.Seq.{take-append_seam}
use Rattle.std.proofs.lemmas.List.{drop-replicate}
use Rattle.std.specs.Prelude.{nat_le}
use Rattle.std.specs.Bool.{Decides}
use Rattle.std.specs.List.{list_all}
use Rattle.std.proofs.Common.{arith, ◌&&◌}
use Rattle.std.proofs.lemmas.Bool.Decides.{nat_tests, Decides-and, Decides-or, Decides-eqb, Decides-like, Decides-by_and}
use Rattle.scan_types.specs.declared.limits.TheConstants.{MOST_NAME_BYTES}
use Rattle.scan_types.specs.Names.{IsNameByte, IsNameText, is_name_byte, is_name_text}
use Rattle.scan_types.specs.NameView.{IsPadded}

-- a name's text, followed by zeros up to 32 bytes
pub IsPadded-from_text : (text zeros : List ℕ) → IsNameText text → zeros ≡ replicate MOST_NAME_BYTES 0 → IsPadded (record { bytes = text ++ drop (length text) zeros; len = length text })
IsPadded-from_text text zeros h z =
    let seam = take-append_seam text (drop (length text) zeros) in
    record {
      text = rw seam h;
      long = ap length seam;
      zeros = let few : length text ≤ MOST_NAME_BYTES = h.few in rw (seam, z) (ap (λ r. text ++ r) (sym (drop-replicate (length text) MOST_NAME_BYTES 0)));
    }

Decides-nat_le : (a b : ℕ) → Decides (nat_le a b) (a ≤ b)
Decides-nat_le a b = (λ h. grind (arith, nat_tests), λ h. grind (arith, nat_tests))

Decides-between : (a b n : ℕ) → Decides (nat_le a n && nat_le n b) ((a ≤ n) × (n ≤ b))
Decides-between a b n = Decides-and _ _ (Decides-nat_le a n) (Decides-nat_le n b)

-- the test of a byte tells whether it may stand in a name
pub Decides-is_name_byte : (b : ℕ) → Decides (is_name_byte b) (IsNameByte b)
Decides-is_name_byte b =
    Decides-or _ _
    (Decides-or _ _ (Decides-between 65 90 b) (Decides-between 97 122 b))
    (Decides-or _ _ (Decides-between 48 57 b) (Decides-or _ _ (Decides-eqb b 95) (Decides-or _ _ (Decides-eqb b 45) (Decides-eqb b 46))))

-- the test of a text tells whether it is a name
pub Decides-is_name_text : (text : List ℕ) → Decides (is_name_text text) (IsNameText text)
Decides-is_name_text text =
    let each = Decides-by_and is_name_byte IsNameByte (list_all is_name_byte) Decides-is_name_byte refl (λ _ _. refl) text in
    Decides-like _
    (λ h. record { some = h.0; few = h.1.0; bytes = h.1.1 })
    (λ h. (h.some, (h.few, h.bytes)))
    (Decides-and _ _ (Decides-nat_le 1 (length text)) (Decides-and _ _ (Decides-nat_le (length text) MOST_NAME_BYTES) each))
