-- Two counters' files merged (K14): what `merging::merge` writes, read again and carried out. Its promise says that it is the day file of A's records and then B's,
-- renumbered.
use mathlib.Core.Bool.{true}
use mathlib.Core.List.{List, [], ◌∷◌, ◌++◌, append-nil}
use mathlib.Core.Logic.{◌⊎◌, inl, inr}
use mathlib.Core.Path.{◌≡◌, refl, sym, ◌∙◌}
use Prim.Native.Nat.{ℕ, ◌+◌, ◌≤◌, ◌<◌, ◌^◌}
use native.Mathlib.Omega.{arith}
use lib.ListN.{length, length-append}
use Rattle.numbers.specs.Bytes.{Bytes}
use Rattle.rows.specs.declared.Book.{Book}
use Rattle.book.specs.Sound.{sound_b}
use Rattle.book.proofs.SoundTest.{sound→, sound←}
use Rattle.dayfile.specs.declared.Record.{Record}
use Rattle.dayfile.specs.Files.{Reads}
use Rattle.dayfile.proofs.RoundTrip.{file-reads}
use Rattle.desk.specs.Steps.{step_of}
use Rattle.records.specs.Runs.{ran_of}
use Rattle.records.proofs.SoundRun.{step-sound}
use Rattle.merging.specs.Merging.{listed_in, numbered, renumbered, merged_file}
use Rattle.merging.proofs.Joined.{both-good}
use Rattle.promises.specs.Sequences.{after_all}
use Rattle.promises.specs.Orders.{own_of, TwoOrders, WithoutOpenings, SameButModes, SerialsFit, Apart, records_at}
use Rattle.promises.proofs.TwoFiles.{two-files, records-read}
use Rattle.promises.proofs.Renumbered.{good-renumbered, own-renumbered, own-both, codes-renumbered, codes-joined, as-many-renumbered, past-3, serial-on}

-- Records that are numbered from a sound book's next serial, as those of a merged file are: none of them is refused with 3.
pub no-serial-is-refused : (rs : List Record) (b : Book) → sound_b b ≡ true → SerialsFit b (renumbered b.serial rs)
unfolding SerialsFit renumbered after_all
no-serial-is-refused [] b sound = tt
no-serial-is-refused (r ∷ rs) b sound =
    let q = numbered b.serial r in
    let next = (step_of b q).book in
    (not-3 (past-3 b sound q refl), rw (serial-on b sound q refl) at (no-serial-is-refused rs next (sound← next (step-sound b q (sound→ b sound)))))
  where
    not-3 : {n : ℕ} → (n ≡ 0) ⊎ (4 ≤ n) → n ≡ 3 → ⊥
    not-3 (inl z) e = omega arith
    not-3 (inr h) e = omega arith

-- Two files that are merged without a refusal.
module _ (a b : List ℕ) (ya : Bytes a) (yb : Bytes b) (za : (listed_in a).refusal ≡ 0) (zb : (listed_in b).refusal ≡ 0) where
  -- The merged file reads as A's records and then B's, renumbered, up to its end.
  pub merged-reads-as-both : (next : ℕ) → next < 2 ^ 16 → Reads (merged_file a b next) 0 (renumbered next ((listed_in a).records ++ (listed_in b).records))
  unfolding merged_file
  merged-reads-as-both next h = file-reads _ (good-renumbered next _ h (both-good a b ya yb za zb))

  records-merged : (next most : ℕ) → next < 2 ^ 16 → length (listed_in a).records + length (listed_in b).records ≤ most
      → records_at (merged_file a b next) most 0 ≡ renumbered next ((listed_in a).records ++ (listed_in b).records)
  records-merged next most h l =
      records-read (merged_file a b next) most 0 _ (merged-reads-as-both next h)
      (omega (arith, l, as-many-renumbered next ((listed_in a).records ++ (listed_in b).records), length-append (listed_in a).records (listed_in b).records))

-- "Two clerks' files are merged in some order." Two files of counters that have no account in common, merged either way: two orders of the same records.
pub either-way-two-orders : (rs qs : List Record) (next : ℕ) → Apart rs qs → TwoOrders (renumbered next (rs ++ qs)) (renumbered next (qs ++ rs))
either-way-two-orders rs qs next apart number =
    own-renumbered number next (rs ++ qs) ∙ own-both number rs qs ∙ by (apart number) ∙ sym (own-both number qs rs) ∙ sym (own-renumbered number next (qs ++ rs))
  where
    by : (own_of number rs ≡ []) ⊎ (own_of number qs ≡ []) → own_of number rs ++ own_of number qs ≡ own_of number qs ++ own_of number rs
    by (inl e) = rw e (sym (append-nil (own_of number qs)))
    by (inr e) = rw e (append-nil (own_of number rs))

-- So of two such files, without openings, merged either way from a sound book's next serial and carried out to the last record: the two books are the same but for their modes.
pub either-way-the-same-book : (c : Book) → sound_b c ≡ true → c.serial < 2 ^ 16
    → (a b : List ℕ) → Bytes a → Bytes b → (listed_in a).refusal ≡ 0 → (listed_in b).refusal ≡ 0
    → Apart (listed_in a).records (listed_in b).records → WithoutOpenings (listed_in a).records → WithoutOpenings (listed_in b).records
    → (most : ℕ) → length (listed_in a).records + length (listed_in b).records ≤ most
    → (ran_of c (merged_file a b c.serial) most).done ≡ (ran_of c (merged_file a b c.serial) most).read
    → (ran_of c (merged_file b a c.serial) most).done ≡ (ran_of c (merged_file b a c.serial) most).read
    → SameButModes (ran_of c (merged_file a b c.serial) most).book (ran_of c (merged_file b a c.serial) most).book
either-way-the-same-book c sound h a b ya yb za zb apart plain-a plain-b most l one other =
    let rs = (listed_in a).records in
    let qs = (listed_in b).records in
    let ab = records-merged a b ya yb za zb c.serial most h l in
    let ba = records-merged b a yb ya zb za c.serial most h (omega arith) in
    two-files c sound (merged_file a b c.serial) (merged_file b a c.serial) most
    (rw (ab, ba) (either-way-two-orders rs qs c.serial apart))
    (rw ab (codes-renumbered (λ code. 3 < code) c.serial (rs ++ qs) (codes-joined (λ code. 3 < code) rs qs plain-a plain-b)))
    one other
