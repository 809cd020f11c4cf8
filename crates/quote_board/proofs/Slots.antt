-- Slots are told apart by feed and number.
use Rattle.std.proofs.Common.{ℕ, ◌≡◌, Bool, cond, ap, ◌∙◌, arith}
use Rattle.std.specs.Prelude.{◌==◌, ◌&&◌, Option, if◌then◌else◌}
use Rattle.std.specs.BTreeMap.{get, is_at}
use Rattle.std.proofs.lemmas.Bool.Decides.{nat_tests}
use Rattle.scan_types.specs.declared.offer.Offer.{Offer}
use Rattle.quote_board.specs.declared.book.Slot.{Slot}
use Rattle.quote_board.specs.declared.book.Book.{Book}
use Rattle.quote_board.specs.Books.{slot_cmp, offer_in}

pub at_slot : (slot : Slot) (feed number : ℕ) → is_at (slot_cmp slot) (record { feed = feed; number = number }) ≡ (slot.feed == feed && slot.number == number)
at_slot slot feed number = grind (arith, nat_tests)

-- what is in each slot after a change of one
pub slots_after : (a b : Book) (slot : Slot) (o : Option Offer) →
    ((q : Slot) → get slot_cmp b.offers q ≡ cond (is_at (slot_cmp slot) q) o (get slot_cmp a.offers q)) →
    (feed number : ℕ) → offer_in b feed number ≡ (if slot.feed == feed && slot.number == number then o else offer_in a feed number)
slots_after a b slot o h feed number =
    h (record { feed = feed; number = number }) ∙ ap (λ (t : Bool). cond t o (offer_in a feed number)) (at_slot slot feed number)
