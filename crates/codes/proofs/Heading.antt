-- A record in a piece, by its head: what is read of it, and what it asks, by the tests that its code meets.
use mathlib.Core.Bool.{Bool, true, false, ◌&&◌}
use mathlib.Core.List.{List}
use mathlib.Core.Path.{◌≡◌, refl, sym, ap, ◌∙◌}
use Prim.Native.Nat.{ℕ, zero, suc, ◌+◌, ◌*◌, ◌<◌}
use native.Mathlib.Omega.{arith}
use lib.Dec.{leb}
use lib.ListN.{drop}
use lib.Seq.{drop-drop}
use borrow.Author.Tests.{eq-eqb, ne_eqb, leb-true}
use Rattle.sums.proofs.Choices.{and_split}
use Rattle.rows.specs.declared.Kinds.{Kinds}
use Rattle.numbers.specs.Bytes.{number}
use Rattle.dayfile.specs.declared.Record.{Record}
use Rattle.dayfile.specs.Records.{bit, known_code, suits, good_amounts}
use Rattle.dayfile.specs.Reading.{record_of}
use Rattle.dayfile.specs.Taking.{mark_of}
use Rattle.dayfile.proofs.Amounts.{number_bit, past-bit}
use Rattle.dayfile.proofs.Judging.{kinds-suit, one-suits}
use Rattle.rules.specs.Numbered.{naming}
use Rattle.codes.specs.declared.asked.Head.{Head}
use Rattle.codes.specs.declared.asked.Asked.{Asked}
use Rattle.codes.specs.declared.asked.Asked.TheVariants.{Refused, Bare, One, Four}
use Rattle.codes.specs.Own.{early_number}
use Rattle.codes.specs.Asking.{names_kinds, names_one, names_none, good_named, good_kinds, good_one, asks_of, names_only, kind_of, asked_of, record_at, Heads}
use Rattle.codes.specs.OneKind.{only_kind}
use Rattle.codes.proofs.Asking.{fault-4, fault-5, fault-6, no-fault, faulty, dead-asked, live-asked, kinds-known, one_known, none-known, none-mark, kinds-good, kinds-asks, none-good, none-asks, one-good, one-asks, only-suits, only-good, only-read}

-- ---- what is read

pub number-times : (b : ℕ) (l : List ℕ) → b < 2 → b * number 8 l ≡ number (8 * b) l
unfolding number
number-times zero l h = omega arith
number-times (suc zero) l h = omega arith
number-times (suc (suc b)) l h = absurd (omega arith)

six : (place : ℕ) → place + 2 + 2 + 2 ≡ place + 6
six place = omega arith

four : (place : ℕ) → place + 2 + 2 ≡ place + 4
four place = omega arith

pub heads-read : (s : List ℕ) (place c n : ℕ) → (number 2 (drop (place + 2) s) ≡ (record_of c n (drop (place + 2) s)).serial) × (number 2 (drop (place + 4) s) ≡ (record_of c n (drop (place + 2) s)).account)
unfolding record_of
heads-read s place c n = (refl, simp (drop-drop, four))

module _ (s : List ℕ) (place : ℕ) (h : Head) where
  pub kinds-read : ◌≡◌ {A = Kinds} (record {
    cash = number (8 * bit 0 h.named) (drop (place + 6) s);
    deposits = number (8 * bit 1 h.named) (drop (place + 6 + 8 * bit 0 h.named) s);
    guarantees = number (8 * bit 2 h.named) (drop (place + 6 + 8 * bit 0 h.named + 8 * bit 1 h.named) s);
    securities = number (8 * bit 3 h.named) (drop (place + 6 + 8 * bit 0 h.named + 8 * bit 1 h.named + 8 * bit 2 h.named) s);
  })
      (record_at s place h).kinds
  unfolding record_of
  kinds-read = simp (number_bit, past-bit, drop-drop, six)

  front_read : number 8 (drop (place + 6) s) ≡ number 8 (drop 2 (drop 2 (drop (place + 2) s)))
  front_read = simp (drop-drop, six)

-- ---- what is asked

module _ (s : List ℕ) (place : ℕ) (h : Head) (g : Heads s place h) (alive : Bool) where
  abbrev l : List ℕ
  l = drop (place + 2) s

  abbrev r : Record
  r = record_at s place h

  abbrev Comes : Asked → Type 0
  Comes x = x ≡ asked_of alive h.serial r

  its : r.serial ≡ h.serial
  its = sym g.serial

  pub unknown : known_code h.code ≡ false → Comes (Refused 4)
  unfolding record_of
  unknown k = faulty alive h.serial r its 4 (fault-4 r k) (λ z. omega arith)

  module _ (k : known_code h.code ≡ true) where
    unsuited : suits h.code h.named ≡ false → Comes (Refused 5)
    unfolding record_of
    unsuited u = faulty alive h.serial r its 5 (fault-5 r k u) (λ z. omega arith)

    module _ (u : suits h.code h.named ≡ true) where
      beyond : good_amounts r ≡ false → Comes (Refused 6)
      unfolding record_of
      beyond b = faulty alive h.serial r its 6 (fault-6 r k u b) (λ z. omega arith)

      not_live : good_amounts r ≡ true → alive ≡ false → Comes (Refused 7)
      unfolding record_of
      not_live b a = dead-asked alive h.serial r its (no-fault r k u b) a

      asks : (x : Asked) → asks_of r ≡ x → good_amounts r ≡ true → alive ≡ true → Comes x
      unfolding record_of
      asks x e b a = sym e ∙ live-asked alive h.serial r its (no-fault r k u b) a

  -- a code that names no kinds has one second mark byte
  module _ (k : (known_code h.code ≡ true) × (names_kinds h.code ≡ false)) where
    other-mark : (h.named ≡ mark_of h.code → ⊥) → suits h.code h.named ≡ false
    other-mark ne = sym (one-suits h.code h.named k.0 k.1) ∙ ne_eqb _ _ ne

    own-mark : h.named ≡ mark_of h.code → suits h.code h.named ≡ true
    own-mark e = sym (one-suits h.code h.named k.0 k.1) ∙ eq-eqb _ _ e

  module _ (n : names_none h.code ≡ true) where
    pub none-unsuited : (h.named ≡ 0 → ⊥) → Comes (Refused 5)
    none-unsuited ne = let k = none-known h.code n in unsuited k.0 (other-mark k (λ e. ne (e ∙ sym (none-mark h.code n))))

    module _ (e : h.named ≡ 0) where
      none-suits : suits h.code h.named ≡ true
      none-suits = own-mark (none-known h.code n) (e ∙ none-mark h.code n)

      pub none-dead : alive ≡ false → Comes (Refused 7)
      none-dead = not_live (none-known h.code n).0 none-suits (none-good h.code h.named l e)

      pub none_passes : alive ≡ true → Comes Bare
      none_passes = asks (none-known h.code n).0 none-suits Bare (none-asks h.code h.named l n) (none-good h.code h.named l e)

  module _ (n : names_one h.code ≡ true) where
    pub one-unsuited : (h.named ≡ mark_of h.code → ⊥) → Comes (Refused 5)
    one-unsuited ne = let k = one_known h.code n in unsuited k.0 (other-mark k ne)

    module _ (e : h.named ≡ mark_of h.code) (y : ℕ) (read : y ≡ number 8 (drop (place + 6) s)) where
      front : y ≡ number 8 (drop 2 (drop 2 l))
      front = read ∙ front_read s place h

      one-is-good : good_amounts r ≡ good_one h.code y
      one-is-good = one-good h.code h.named l n e ∙ ap (good_one h.code) (sym front)

      one-suit : suits h.code h.named ≡ true
      one-suit = own-mark (one_known h.code n) e

      pub one-beyond : good_one h.code y ≡ false → Comes (Refused 6)
      one-beyond b = beyond (one_known h.code n).0 one-suit (one-is-good ∙ b)

      pub one-dead : good_one h.code y ≡ true → alive ≡ false → Comes (Refused 7)
      one-dead b = not_live (one_known h.code n).0 one-suit (one-is-good ∙ b)

      pub one_passes : good_one h.code y ≡ true → alive ≡ true → Comes (One y)
      one_passes b = asks (one_known h.code n).0 one-suit (One y) (one-asks h.code h.named l n e ∙ ap One (sym front)) (one-is-good ∙ b)

  module _ (n : names_kinds h.code ≡ true) where
    pub kinds-unsuited : (leb 1 h.named && leb h.named 15) ≡ false → Comes (Refused 5)
    kinds-unsuited e = unsuited (kinds-known h.code n) (sym (kinds-suit h.code h.named n) ∙ e)

    module _ (e : (leb 1 h.named && leb h.named 15) ≡ true) (k : Kinds) (read : k ≡ r.kinds) where
      kinds-are-good : good_amounts r ≡ good_kinds h.named k
      kinds-are-good = kinds-good h.code h.named l (leb-true h.named 15 (and_split (leb 1 h.named) (leb h.named 15) e).1) ∙ ap (good_kinds h.named) (sym read)

      kinds-suits : suits h.code h.named ≡ true
      kinds-suits = sym (kinds-suit h.code h.named n) ∙ e

      pub kinds-beyond : good_kinds h.named k ≡ false → Comes (Refused 6)
      kinds-beyond b = beyond (kinds-known h.code n) kinds-suits (kinds-are-good ∙ b)

      pub kinds-dead : good_kinds h.named k ≡ true → alive ≡ false → Comes (Refused 7)
      kinds-dead b = not_live (kinds-known h.code n) kinds-suits (kinds-are-good ∙ b)

      pub kinds-pass : good_kinds h.named k ≡ true → alive ≡ true → Comes (Four k)
      kinds-pass b = asks (kinds-known h.code n) kinds-suits (Four k) (kinds-asks h.code h.named l n ∙ ap Four (sym read)) (kinds-are-good ∙ b)

    -- one kind alone
    module _ (o : names_only h.named ≡ true) (x : ℕ) (read : x ≡ number 8 (drop (place + 6) s)) where
      abbrev k : Kinds
      k = only_kind (kind_of h.named) x

      only : k ≡ r.kinds
      only = ap (only_kind (kind_of h.named)) (read ∙ front_read s place h) ∙ sym (only-read h.code h.named l o)

      only-is-good : good_kinds h.named k ≡ good_named 1 x
      only-is-good = only-good h.named o x

      pub only-beyond : good_named 1 x ≡ false → Comes (Refused 6)
      only-beyond b = kinds-beyond (only-suits h.named o) k only (only-is-good ∙ b)

      pub only-dead : good_named 1 x ≡ true → alive ≡ false → Comes (Refused 7)
      only-dead b = kinds-dead (only-suits h.named o) k only (only-is-good ∙ b)

      pub only-passes : good_named 1 x ≡ true → alive ≡ true → Comes (Four k)
      only-passes b = kinds-pass (only-suits h.named o) k only (only-is-good ∙ b)

-- ---- the record's account told otherwise

pub code_read : (s : List ℕ) (place : ℕ) (h : Head) → (record_at s place h).code ≡ h.code
unfolding record_of
code_read s place h = refl

pub asked-elsewhere : (alive : Bool) (serial : ℕ) (a : ℕ) (r : Record) → asked_of alive serial r ≡ asked_of alive serial (naming a r)
unfolding asked_of early_number
asked-elsewhere alive serial a r = refl
