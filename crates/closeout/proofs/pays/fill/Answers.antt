-- `closeout::pays::fill` meets its contract. The invariant: the pass stands at account i.
use mathlib.Core.Path.{◌≡◌, refl, sym, ap, ◌∙◌}
use mathlib.Core.List.{List}
use Prim.Native.Nat.{ℕ, ◌+◌, ◌-◌, ◌*◌, ◌≤◌, ◌<◌}
use native.Mathlib.Omega.{arith}
use lib.ListN.{length, get_or, set, get_or-map}
use Rattle.std.proofs.lemmas.List.{map-set}
use Rattle.rows.specs.declared.Row.{Row}
use Rattle.rows.specs.Rows.{row_at, account_of}
use Rattle.rows.specs.Facts.{InRange}
use Rattle.table.specs.declared.Table.{Table}
use Rattle.table.specs.Words.{row_in, turned_back}
use Rattle.table.proofs.Gathered.{row-in}
use Rattle.book.specs.Facts.{Sound}
use Rattle.closeout.specs.declared.pays.Both.{Both}
use Rattle.closeout.specs.declared.pays.Purses.{Purses}
use Rattle.closeout.specs.Inner.{rounds_by, after_own, four_of, put_at, Checked}
use Rattle.closeout.proofs.DeemedUnder.{need-kept, under-kept}
use Rattle.closeout.proofs.Pass.{Passed, pass-start, pass-finish, sum_fits, tm-has, tm-has₂, cm-has, cm-has₂, named-low, pass-turn}
use Rattle.closeout.proofs.pays.fill.Invariants.{lefts, frees}
use Rattle.closeout.proofs.pays.fill.Goals as goal

-- what account m's purses have left, and purses once so much is paid from them
abbrev purses_at : List Purses → ℕ → Purses
purses_at ps m = get_or ps m (record { left = 0; free = 0 })

abbrev less_by : Purses → ℕ → ℕ → Purses
less_by x first second = record { left = x.left - first; free = x.free - second }

-- a row held, as it is gathered from the table, and what is deemed under it
module _ (t : Table) (s : Sound (turned_back t)) {i : ℕ} (l : i < t.count) {r : Row} (e : r ≡ row_in t.marks t.amounts i) where
  row : r ≡ row_at (turned_back t) i
  row = e ∙ sym (row-in t.marks t.amounts i (omega (arith, s.most)))

  low : r.tm < 256
  low = omega (arith, ap (λ q. q.tm) row, s.most, named-low (turned_back t) s i l)

  its-under : {under : ℕ} → under ≡ get_or t.needs i 0 - r.margin → under ≡ get_or t.needs i 0 - (row_at (turned_back t) i).margin
  its-under u = rw row at u

  asked : {under : ℕ} → under ≡ get_or t.needs i 0 - r.margin → InRange r × (under ≤ 2_560_000_000_000_000)
  asked u = (rw row (s.ranges i l), under-kept (turned_back t) s i l (its-under u))

-- its turn
module _ (t : Table) (ps : List Purses) (cm : Purses) {losses room₀ room : List ℕ} {cm' tm' : Purses} {open-sum i under : ℕ} {r : Row} {p : Both} {room' : List ℕ}
    (checked : Checked (turned_back t) losses room₀) (l : i < t.count)
    (at : Passed (turned_back t) losses room₀ room (lefts ps) (frees ps) cm.left cm.free open-sum i)
    (e : r ≡ row_in t.marks t.amounts i) (u : under ≡ get_or t.needs i 0 - r.margin)
    (paid : p ≡ rounds_by (account_of r) (get_or losses i 0) under (purses_at ps r.tm).left cm.left (purses_at ps r.tm).free cm.free)
    (put : room' ≡ put_at room (4 * i) (four_of p)) (same : length room' ≡ length room)
    (tm-less : tm' ≡ less_by (purses_at ps r.tm) p.first.tm p.second.tm) (cm-less : cm' ≡ less_by cm p.first.cm p.second.cm) where
  left_at : get_or (lefts ps) r.tm 0 ≡ (purses_at ps r.tm).left
  left_at = get_or-map (λ x. x.left) ps r.tm (record { left = 0; free = 0 })

  free_at : get_or (frees ps) r.tm 0 ≡ (purses_at ps r.tm).free
  free_at = get_or-map (λ x. x.free) ps r.tm (record { left = 0; free = 0 })

  in-two : Passed (turned_back t) losses room₀ room' (set (set (lefts ps) r.tm (get_or (lefts ps) r.tm 0 - p.first.tm)) i p.first.left)
      (set (set (frees ps) r.tm (get_or (frees ps) r.tm 0 - p.second.tm)) i p.second.left) (cm.left - p.first.cm) (cm.free - p.second.cm) (open-sum + p.second.unpaid) (i + 1)
  in-two =
      let its-row = row t checked.sound l e in
      let in-lists : p ≡ rounds_by (account_of r) (get_or losses i 0) under (get_or (lefts ps) r.tm 0) cm.left (get_or (frees ps) r.tm 0) cm.free =
      paid ∙ (λ j. rounds_by (account_of r) (get_or losses i 0) under (sym left_at j) cm.left (sym free_at j) cm.free) in
      rw its-row (pass-turn checked.sound l at under (need-kept (turned_back t) checked.sound i l (its-under t checked.sound l e u)) (rw its-row at in-lists) put same)

  turn : Passed (turned_back t) losses room₀ room' (lefts (set (set ps r.tm tm') i (record { left = p.first.left; free = p.second.left })))
      (frees (set (set ps r.tm tm') i (record { left = p.first.left; free = p.second.left }))) cm'.left cm'.free (open-sum + p.second.unpaid) (i + 1)
  turn = rw (tm-less, cm-less) (simp map-set (rw (← left_at, ← free_at) in-two))

  turn-fits : open-sum + p.second.unpaid ≤ 256 * 10_000_000_000_000
  turn-fits = omega (arith, checked.sound.most, sum_fits in-two checked.small (omega arith))

pub after_own-cm-requires : goal.after_own-cm-requires
after_own-cm-requires c = let s = c.requires.sound in asked c.args.t.now s s.shaped.some c.row_at-top.ensures c.saturating_sub.ensures

pub loop-i-init : goal.loop-i-init
loop-i-init c =
    let a = c.args in
    let b = turned_back a.t.now in
    let s = c.requires.sound in
    let under = its-under a.t.now s s.shaped.some c.row_at-top.ensures c.saturating_sub.ensures in
    pass-start b a.losses.now a.room.now _ _ c.saturating_sub.result s refl refl (need-kept b s 0 s.shaped.some under)
    (c.after_own-cm.ensures
    ∙ ap (λ q. after_own (account_of q) (get_or a.losses.now 0 0) c.saturating_sub.result) (row a.t.now s s.shaped.some c.row_at-top.ensures))

pub bounds-purses-m : goal.bounds-purses-m
bounds-purses-m c = low c.args.t.now c.requires.sound c.loop-i-test.true c.row_at-r.ensures

pub rounds-p-requires : goal.rounds-p-requires
rounds-p-requires c = asked c.args.t.now c.requires.sound c.loop-i-test.true c.row_at-r.ensures c.saturating_sub-under.ensures

pub less-requires : goal.less-requires
less-requires c = (tm-has _ _ _ _ _ _ _ c.rounds-p.ensures, tm-has₂ _ _ _ _ _ _ _ c.rounds-p.ensures)

pub bounds-purses-m-in-loop-i : goal.bounds-purses-m-in-loop-i
bounds-purses-m-in-loop-i c = low c.args.t.now c.requires.sound c.loop-i-test.true c.row_at-r.ensures

pub less-cm-requires : goal.less-cm-requires
less-cm-requires c = (cm-has _ _ _ _ _ _ _ c.rounds-p.ensures, cm-has₂ _ _ _ _ _ _ _ c.rounds-p.ensures)

pub overflow_add-uncovered : goal.overflow_add-uncovered
overflow_add-uncovered c =
    omega (arith, turn-fits c.args.t.now c.loop-i.purses c.loop-i.cm c.requires c.loop-i-test.true c.loop-i.invariant c.row_at-r.ensures c.saturating_sub-under.ensures c.rounds-p.ensures c.put.ensures c.put.auto.room c.less.ensures c.less-cm.ensures)

pub loop-i-preserved : goal.loop-i-preserved
loop-i-preserved c =
    turn c.args.t.now c.loop-i.purses c.loop-i.cm c.requires c.loop-i-test.true c.loop-i.invariant c.row_at-r.ensures c.saturating_sub-under.ensures c.rounds-p.ensures c.put.ensures c.put.auto.room c.less.ensures c.less-cm.ensures

pub returns : goal.returns
returns c = pass-finish c.loop-i.invariant (omega arith) c.requires.wide
