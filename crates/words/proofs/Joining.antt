-- Pieces joined are the whole: what is taken of a piece, and then of what follows it, is what the whole file comes to.
use Rattle.std.proofs.Common.{◌≡◌, ℕ, suc, ◌+◌, ◌-◌, Bool, true, false, ◌&&◌, leb, List, [], ◌∷◌, ◌++◌, length, drop, sym, refl, ap, ◌∙◌, append_assoc, arith, drop-drop}
use Rattle.sums.specs.Choice.{pick}
use Rattle.sums.proofs.Choices.{and_left}
use Rattle.words.specs.Texts.{Turned, puts, fails, File, file, wrong, behind, file_by, file_from}
use Rattle.words.specs.Pieces.{Taking, stop, after, taken_by, taken_from}

-- what follows so many bytes that so many lines came to
abbrev pub follows : ℕ → List ℕ → File → File
follows lines x (file y) = file (x ++ y)
follows lines x (wrong k n) = wrong (lines + k) n

follows-none : (f : File) → f ≡ follows 0 [] f
follows-none (file y) = refl
follows-none (wrong k n) = ap (λ (j : ℕ). wrong j n) (omega arith)

follows-more : (lines : ℕ) (x y : List ℕ) (f : File) → behind x (follows lines y f) ≡ follows (suc lines) (x ++ y) f
unfolding behind
follows-more lines x y (file z) = ap file (sym (append_assoc x y z))
follows-more lines x y (wrong k n) = ap (λ (j : ℕ). wrong j n) (omega arith)

-- of any way to split a file whose parts that are ready stay the first ones where more follows
module _ (split : List ℕ → List (List ℕ)) (ready : List ℕ → Bool) (most : ℕ) (turn : ℕ → List ℕ → Turned) (told : (running : ℕ) (x : List ℕ) → turn running x ≡ fails 0 → ⊥) (more : List ℕ)
    (stays : (t x : List ℕ) (xs : List (List ℕ)) → split t ≡ x ∷ xs → ready x ≡ true → (split (t ++ more) ≡ x ∷ split (drop (length x) t ++ more)) × (split (drop (length x) t) ≡ xs)) where
  abbrev Joined : List ℕ → ℕ → Taking → Type 0
  Joined t running k =
      (k.fault ≡ 0 → file_from turn running (split (t ++ more)) ≡ follows k.lines k.bytes (file_from turn k.running (split (drop k.place t ++ more))))
      × ((k.fault ≡ 0 → ⊥) → file_from turn running (split (t ++ more)) ≡ wrong (k.lines + 1) k.fault)

  stopped : (t : List ℕ) (running : ℕ) → Joined t running (stop running 0)
  stopped t running = (λ z. follows-none _, λ z. absurd (z refl))

  module _ (t : List ℕ) (running : ℕ) (x : List ℕ) (e : split (t ++ more) ≡ x ∷ split (drop (length x) t ++ more)) where
    failed : (n : ℕ) → turn running x ≡ fails n → Joined t running (stop running n)
    unfolding file_from file_by
    failed n f = (λ z. absurd (told running x (f ∙ ap fails z)), λ z. rw (e, f))

    went : (y : List ℕ) (next : ℕ) (k : Taking) → turn running x ≡ puts y next → Joined (drop (length x) t) next k → Joined t running (after x y k)
    unfolding file_from file_by behind
    went y next k f j =
        let d = drop-drop k.place (length x) t in
        let m : suc (k.lines + 1) ≡ suc k.lines + 1 = omega arith in
        (λ z. rw (e, f, j.0 z, d) (follows-more k.lines y k.bytes (file_from turn k.running (split (drop (length x + k.place) t ++ more)))), λ z. rw (e, f, j.1 z, m))

  pub joined : (xs : List (List ℕ)) (t : List ℕ) (room running : ℕ) → split t ≡ xs → Joined t running (taken_from ready most turn room running xs)
  unfolding taken_from taken_by pick
  joined [] t room running e = stopped t running
  joined (x ∷ xs) t room running e =
      by (ready x && leb most room) refl (turn running x) refl (λ y next u. joined xs (drop (length x) t) (room - length y) next u)
    where
      by : (u : Bool) → (ready x && leb most room) ≡ u → (v : Turned) → turn running x ≡ v
          → ((y : List ℕ) (next : ℕ) → split (drop (length x) t) ≡ xs → Joined (drop (length x) t) next (taken_from ready most turn (room - length y) next xs))
          → Joined t running (pick u (taken_by x running v (λ y next. taken_from ready most turn (room - length y) next xs)) (stop running 0))
      by false f v g go = stopped t running
      by true f (fails n) g go = failed t running x (stays t x xs e (and_left (ready x) (leb most room) f)).0 n g
      by true f (puts y next) g go =
          let s = stays t x xs e (and_left (ready x) (leb most room) f) in
          went t running x s.0 y next _ g (go y next s.1)
