-- Both forms, turned piece by piece: pieces joined are the whole.
use Rattle.std.proofs.Common.{◌≡◌, ℕ, ◌+◌, ◌-◌, Bool, true, false, ◌&&◌, ◌||◌, leb, List, [], ◌∷◌, ◌++◌, length, drop, refl, arith}
use Rattle.sums.specs.Choice.{pick}
use Rattle.dayfile.specs.Reading.{found_at}
use Rattle.words.specs.Texts.{moved, file, wrong, behind, file_by, file_from, line_turned, lines_of, day_of, record_turned, records_of, line_for, text_from, text_of}
use Rattle.words.specs.Pieces.{ended, is_whole, bytes_taken, text_taken, stop, taken_from, taken_by}
use Rattle.words.proofs.GoodLines.{line-told}
use Rattle.words.proofs.LinesAt.{lines_stay}
use Rattle.words.proofs.RecordsAt.{records-stay}
use Rattle.words.proofs.Joining.{follows, joined}

clash : ◌≡◌ {A = ℕ} 0 1 → ⊥
clash e = omega arith

module _ (last : Bool) (room running : ℕ) (more : List ℕ) (end : last ≡ true → more ≡ []) where
  -- what a piece of text means, and then what follows it, is the day file that all of the text says; or its first bad line is the text's
  pub text-joined : (t : List ℕ)
      → ((bytes_taken last room running t).fault ≡ 0
      → day_of running (t ++ more) ≡ follows (bytes_taken last room running t).lines (bytes_taken last room running t).bytes (day_of (bytes_taken last room running t).running (drop (bytes_taken last room running t).place t ++ more)))
      × (((bytes_taken last room running t).fault ≡ 0 → ⊥) → day_of running (t ++ more) ≡ wrong ((bytes_taken last room running t).lines + 1) (bytes_taken last room running t).fault)
  text-joined t = joined lines_of (λ l. last || ended l) 70 line_turned line-told more (lines_stay last more end) (lines_of t) t room running refl

  -- no record fails: any bytes have a text
  always : (running : ℕ) (xs : List (List ℕ)) → file_from record_turned running xs ≡ file (text_from running xs)
  unfolding file_from file_by behind text_from
  always running [] = refl
  always running (x ∷ xs) = rw (always (moved running x) xs)

  pub never : (room running : ℕ) (xs : List (List ℕ)) → (taken_from (λ x. last || is_whole (found_at x 0)) 205 record_turned room running xs).fault ≡ 0
  unfolding taken_from taken_by pick
  never room running [] = refl
  never room running (x ∷ xs) = by ((last || is_whole (found_at x 0)) && leb 205 room) (never (room - length (line_for running x)) (moved running x) xs)
    where
      by : (t : Bool) → (taken_from (λ x. last || is_whole (found_at x 0)) 205 record_turned (room - length (line_for running x)) (moved running x) xs).fault ≡ 0
          → (pick t (taken_by x running (record_turned running x) (λ y next. taken_from (λ x. last || is_whole (found_at x 0)) 205 record_turned (room - length y) next xs)) (stop running 0)).fault ≡ 0
      by true h = h
      by false h = refl

  -- the lines of a piece of a day file, and then those of what follows it, are the text of all of it
  pub bytes-joined : (s : List ℕ)
      → text_of running (s ++ more) ≡ (text_taken last room running s).bytes ++ text_of (text_taken last room running s).running (drop (text_taken last room running s).place s ++ more)
  bytes-joined s =
      let j = (joined records_of (λ x. last || is_whole (found_at x 0)) 205 record_turned (λ k x e. clash (cc)) more (records-stay last more end) (records_of s) s room running refl).0 (never room running (records_of s)) in
      let a = always running (records_of (s ++ more)) in
      let b = always (text_taken last room running s).running (records_of (drop (text_taken last room running s).place s ++ more)) in
      let c = rw b at j in
      cc
