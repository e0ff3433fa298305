-- A text in lines: a line that was put there by itself is one of them.
use Rattle.std.proofs.Common.{◌≡◌, ℕ, zero, suc, ◌+◌, ◌/◌, ◌%◌, ◌≤◌, Bool, true, false, eqb, ltb, List, [], ◌∷◌, ◌++◌, refl, ap, ◌∙◌, arith, ne_eqb}
use Rattle.sums.specs.Choice.{pick}
use Rattle.sums.proofs.Choices.{pick_yes, pick_no}
use Rattle.dayfile.specs.declared.Record.{Record}
use Rattle.text.specs.Numbers.{decimal}
use Rattle.words.specs.Lines.{serial_part, account_part, kind_part, only_part, amounts_part, line_of}
use Rattle.words.specs.Hex.{hex_digit, hex_of, raw_line}
use Rattle.words.specs.Texts.{on_first, lines_of}
use Rattle.words.proofs.Tokens.{AllIn, nothing, also, range-least, all_digits}
use Rattle.words.proofs.Tables.{Word, code-word, cash-word, deposits-word, guarantees-word, securities-word, serial-word, raw_word}

-- bytes with no newline among them, and such bytes with a newline behind them
pub data Plain : List ℕ → Type 0 where
  none : Plain []
  byte : {b : ℕ} {x : List ℕ} → eqb b 10 ≡ false → Plain x → Plain (b ∷ x)

pub data OneLine : List ℕ → Type 0 where
  newline : OneLine (10 ∷ [])
  byte : {b : ℕ} {x : List ℕ} → eqb b 10 ≡ false → OneLine x → OneLine (b ∷ x)

-- it is the first line of the text that it begins
pub first-line : {x : List ℕ} (t : List ℕ) → OneLine x → lines_of (x ++ t) ≡ x ∷ lines_of t
unfolding lines_of on_first
first-line t newline = pick_yes _ _ _ refl
first-line t (byte {b} {x} e p) = pick_no _ _ _ e ∙ ap (on_first b) (first-line t p)

-- ---- the parts of a line are plain

pub and-more : {x y : List ℕ} → Plain x → OneLine y → OneLine (x ++ y)
and-more none q = q
and-more (byte e p) q = byte e (and-more p q)

plain_more : {x y : List ℕ} → Plain x → Plain y → Plain (x ++ y)
plain_more none q = q
plain_more (byte e p) q = byte e (plain_more p q)

plain-all : {base low : ℕ} {x : List ℕ} → 11 ≤ low → AllIn base low x → Plain x
plain-all h nothing = none
plain-all {base} {low} h (also {b} e p) = let k = range-least b low base e in byte (ne_eqb b 10 (λ q. omega arith)) (plain-all h p)

plain-number : (n : ℕ) → Plain (decimal n)
plain-number n = plain-all (omega arith) (all_digits n)

plain_word : {x : List ℕ} → Word x → Plain x
plain_word w = plain-all (omega arith) w.small

plain-spaced : {x : List ℕ} → Plain x → Plain (32 ∷ x)
plain-spaced p = byte refl p

plain-serial : (t : Bool) (n : ℕ) → Plain (serial_part t n)
unfolding serial_part
plain-serial true n = none
plain-serial false n = plain_more (plain_word serial-word) (plain-spaced (plain_more (plain-number n) (plain-spaced none)))

plain-account : (t : Bool) (n : ℕ) → Plain (account_part t n)
unfolding account_part
plain-account true n = none
plain-account false n = plain-spaced (plain-number n)

plain-kind : (b : ℕ) {word : List ℕ} (x : ℕ) → Word word → Plain (kind_part b word x)
unfolding kind_part
plain-kind zero x w = none
plain-kind (suc b) x w = plain-spaced (plain_more (plain_word w) (plain-spaced (plain-number x)))

plain-only : (t : Bool) (x : ℕ) → Plain (only_part t x)
unfolding only_part
plain-only true x = plain-spaced (plain-number x)
plain-only false x = none

-- ---- the two forms of a line

pub words-line : (running : ℕ) (r : Record) → 1 ≤ r.code → r.code ≤ 13 → OneLine (line_of running r)
unfolding line_of amounts_part
words-line running r h k =
    and-more (plain-serial _ r.serial) (and-more (plain_word (code-word r.code h k).word) (and-more (plain-account _ r.account)
    (and-more (plain-kind _ _ cash-word) (and-more (plain-kind _ _ deposits-word) (and-more (plain-kind _ _ guarantees-word) (and-more (plain-kind _ _ securities-word)
    (and-more (plain-only _ r.pledged) (and-more (plain-only _ r.margin) newline))))))))

plain-digit : (d : ℕ) → eqb (hex_digit d) 10 ≡ false
unfolding hex_digit pick
plain-digit d = by (ltb d 10)
  where
    by : (t : Bool) → eqb (pick t (48 + d) (55 + d)) 10 ≡ false
    by true = ne_eqb (48 + d) 10 (λ e. omega arith)
    by false = ne_eqb (55 + d) 10 (λ e. omega arith)

plain-hex : (x : List ℕ) → Plain (hex_of x)
unfolding hex_of
plain-hex [] = none
plain-hex (b ∷ x) = byte (plain-digit (b / 16)) (byte (plain-digit (b % 16)) (plain-hex x))

pub raw-line : (x : List ℕ) → OneLine (raw_line x)
unfolding raw_line
raw-line x = and-more (plain_word raw_word) (byte refl (and-more (plain-hex x) newline))
