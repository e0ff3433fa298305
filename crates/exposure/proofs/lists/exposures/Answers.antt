-- `exposure::lists::exposures` meets its contract.
use mathlib.Core.Path.{◌≡◌, sym, ap, ◌∙◌}
use Prim.Native.Nat.{◌*◌}
use native.Mathlib.Omega.{arith}
use lib.ListN.{length}
use Rattle.sums.specs.Listed.{list_to}
use Rattle.exposure.specs.Lists.{figures_from, clients_in, number_in_room}
use Rattle.exposure.proofs.Listing.{clients-few, figures-wrong, room-wrong, all_right, room-filled}
use Rattle.exposure.proofs.lists.exposures.Goals as goal

pub place-requires : goal.place-requires
place-requires c =
    let a = c.args in
    omega (arith, c.clients-n.ensures, clients-few a.form (length a.figures.now), c.well_formed.1.0.0)

pub returns-then-place-figures : goal.returns-then-place-figures
returns-then-place-figures c =
    let place_is : c.place.result ≡ figures_from c.args.form (clients_in c.args.form (length c.args.figures.now)) =
    c.place.ensures ∙ ap (figures_from c.args.form) c.clients-n.ensures
    in
    let a = c.args in
    let whole = figures-wrong a.form a.figures.now a.room.now (λ e. c.if-place-figures.true (place_is ∙ e)) in
    record { value = whole.0; room_after = whole.1 }

pub overflow_mul-n : goal.overflow_mul-n
overflow_mul-n c =
    let k = c in
    let a = k.args in
    record { fits = omega (arith, k.clients-n.ensures, clients-few a.form (length a.figures.now), k.well_formed.1.0.0) }

pub returns-then-room-n : goal.returns-then-room-n
returns-then-room-n c =
    let k = c in
    let a = k.args in
    let whole = room-wrong a.form a.figures.now a.room.now (λ e. c.if-room-n.true (e ∙ ap (λ n. 2 * n) (sym k.clients-n.ensures))) in
    record { value = whole.0; room_after = whole.1 }

pub returns : goal.returns
returns c =
    let place_is : c.place.result ≡ figures_from c.args.form (clients_in c.args.form (length c.args.figures.now)) =
    c.place.ensures ∙ ap (figures_from c.args.form) c.clients-n.ensures
    in
    let p = c in
    let d = p in
    let w = d in
    let k = w in
    let a = k.args in
    let even = sym place_is ∙ d.if-place-figures.false in
    let fits = d.if-room-n.false ∙ ap (λ n. 2 * n) k.clients-n.ensures in record {
      value = sym (all_right a.form a.figures.now a.room.now even fits);
      room_after = p.put_all.ensures ∙ ap (λ n. list_to (number_in_room a.form a.figures.now) (2 * n)) k.clients-n.ensures
          ∙ sym (room-filled a.form a.figures.now a.room.now even fits);
    }
