-- The running serial moves on, or stays.
use Rattle.std.proofs.Common.{◌≡◌, ℕ, ◌+◌, ◌%◌, ◌<◌, ◌≤◌, leb, List, length, drop, sym, ◌∙◌, eq-eqb, ne_eqb, le-leb}
use borrow.Author.Tests.{lt-leb}
use Rattle.sums.proofs.Choices.{pick_yes, pick_no, and-join, and-left-fails, and-right-fails}
use Rattle.numbers.specs.Bytes.{number}
use Rattle.words.specs.Texts.{moved}

module _ (running : ℕ) (x : List ℕ) where
  pub moved-few : length x < 4 → running ≡ moved running x
  unfolding moved
  moved-few h = sym (pick_no _ _ _ (and-left-fails (leb 4 (length x)) _ (lt-leb 4 (length x) h)))

  module _ (n : ℕ) (e : n ≡ number 2 (drop 2 x)) where
    pub moved_on : 4 ≤ length x → n ≡ running → (r : ℕ) → r ≡ (running + 1) % 65536 → r ≡ moved running x
    unfolding moved
    moved_on h k r f = f ∙ sym (pick_yes _ _ _ (and-join (le-leb 4 (length x) h) (eq-eqb _ running (sym e ∙ k))))

    pub moved-not : (n ≡ running → ⊥) → running ≡ moved running x
    unfolding moved
    moved-not k = sym (pick_no _ _ _ (and-right-fails (leb 4 (length x)) _ (ne_eqb _ running (λ q. k (e ∙ q)))))
