-- The text of the close-out by the losses that a text names.
use mathlib.Core.Bool.{Bool, true, false, not, ◌&&◌}
use mathlib.Core.List.{List}
use mathlib.Core.Path.{◌≡◌, refl, sym, ap, ◌∙◌}
use Prim.Native.Nat.{ℕ, ◌≤◌}
use lib.Dec.{ltb}
use lib.ListN.{length, take, get_or}
use lib.Seq.{length-take-le, get_or-take}
use Rattle.sums.specs.Sum.{all}
use Rattle.sums.specs.Listed.{list_to}
use Rattle.sums.proofs.Choices.{pick_yes, pick_no}
use Rattle.sums.proofs.Sums.{all-eq}
use Rattle.sums.proofs.Lists.{list_to-eq}
use Rattle.rows.specs.declared.Book.{Book}
use Rattle.rows.specs.Rows.{place_among, number_at}
use Rattle.book.specs.Sound.{sound_b}
use Rattle.report.specs.Reports.{accounts, close_out_text}
use Rattle.closeouts.proofs.Named.{place-in-front}
use Rattle.closeouts.specs.Texts.{text_of}
use Rattle.closeouts.specs.LossLines.{loss_for, row_losses, all_held, text_of_lines}

module _ (b : Book) (numbers amounts : List ℕ) (count n : ℕ) (wide : count ≤ length numbers) (e : n ≡ accounts b.count) (held-rows : n ≤ length b.numbers) where
  all-rows : length (take n b.numbers) ≡ n
  all-rows = length-take-le n b.numbers held-rows

  at-row : (x : ℕ) → ltb (place_among (take n b.numbers) (length (take n b.numbers)) x) (length (take n b.numbers)) ≡ ltb (place_among b.numbers (accounts b.count) x) (accounts b.count)
  at-row x = rw (place-in-front b.numbers n x held-rows, all-rows, e) refl

  held-is : {h : Bool} → h ≡ all count (λ i. ltb (place_among (take n b.numbers) (length (take n b.numbers)) (get_or numbers i 0)) (length (take n b.numbers))) → h ≡ all_held b (take count numbers)
  unfolding all_held
  held-is q =
      q ∙ all-eq count _ _ (λ i l. at-row (get_or numbers i 0) ∙ ap (λ (x : ℕ). ltb (place_among b.numbers (accounts b.count) x) (accounts b.count)) (sym (get_or-take count numbers i 0 l)))
      ∙ rw (length-take-le count numbers wide) refl

  rows_are : {losses : List ℕ} → losses ≡ list_to (λ i. loss_for (take count numbers) (take count amounts) (get_or (take n b.numbers) i 0)) (length (take n b.numbers)) → losses ≡ row_losses b (take count numbers) (take count amounts)
  unfolding row_losses
  rows_are q = q ∙ rw all-rows (list_to-eq _ _ n (λ i l. ap (loss_for (take count numbers) (take count amounts)) (get_or-take n b.numbers i 0 l))) ∙ ap (list_to (λ i. loss_for (take count numbers) (take count amounts) (number_at b i))) e

  module _ {s h : Bool} (sound : s ≡ sound_b b) (held : h ≡ all count (λ i. ltb (place_among (take n b.numbers) (length (take n b.numbers)) (get_or numbers i 0)) (length (take n b.numbers)))) where
    same : (s && not h) ≡ (sound_b b && not (all_held b (take count numbers)))
    same = rw (sound, held-is held)

    pub refused-here : (total : ℕ) (rows losses room : List ℕ) → (s && not h) ≡ true → close_out_text 7 total rows losses room ≡ text_of_lines b (take count numbers) (take count amounts)
    unfolding text_of_lines close_out_text
    refused-here total rows losses room q = sym (pick_yes _ _ _ (sym same ∙ q))

    pub paid-here : (list : List ℕ) → (s && not h) ≡ false → take (length (take n b.numbers)) list ≡ list_to (λ i. loss_for (take count numbers) (take count amounts) (get_or (take n b.numbers) i 0)) (length (take n b.numbers))
        → text_of b (take n list) ≡ text_of_lines b (take count numbers) (take count amounts)
    unfolding text_of_lines
    paid-here list q r =
        ap (text_of b) (ap (λ (k : ℕ). take k list) (sym all-rows) ∙ rows_are r) ∙ sym (pick_no _ _ _ (sym same ∙ q))
