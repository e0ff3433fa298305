-- A call that changes nothing, as on a reader's piece and place.
use mathlib.Core.Path.{◌≡◌, refl}
use mathlib.Core.List.{[], ◌∷◌}
use seplogic.Ra.Ura.{Ura}
use mir.Val.{Val}
use base.Logic.{SProp, ent, sep, ex}
use types.Logic.{Logic, sem}
use contract.Monad.{fact}
use types.Kit.{‵, raw, ◌⊛◌, some, later, ◌$◌, ◌∵◌, !, qed, move, use1, split, pick, rewrite, await, updating, now as at_once, done}
use denote.RattleType.{RattleType}
use denote.Steps.{heard}

-- what a caller has after a call that changes nothing: the result at the value that the callee's clause P says, and the tokens
pub call-answered : {M : Type 1} {𝓤 : Ura M} (𝓛 : Logic 𝓤)
    (R : RattleType) (x : R.Denot) (tokens : SProp 𝓤) (P : R.Denot → SProp 𝓤)
    → ((r : R.Denot) → ent 𝓤 (P r) (fact 𝓤 (r ≡ x))) → (u : Val)
    → ent 𝓤 (𝓛.H.⇛ (ex 𝓤 (λ (r : R.Denot). sep 𝓤 (sep 𝓤 tokens (sem 𝓛 (R.own_val r (u ∷ [])))) (P r)))) (𝓛.H.⇛ (sep 𝓤 (sem 𝓛 (R.own_val x (u ∷ []))) tokens))
call-answered {𝓤 = 𝓤} 𝓛 R x tokens P said u =
    qed 𝓛 (later (some (λ (r : R.Denot). (raw tokens ⊛ ‵ (R.own_val r (u ∷ []))) ⊛ raw (P r))) ∷ []) ∵ updating ! $ await ! tt $ pick ! (λ r.
    split ! $ move ! (1 ∷ []) $ use1 𝓛 (raw (fact 𝓤 (r ≡ x))) (said r) $ heard ! (r ≡ x) (λ e.
    split ! $ move ! (1 ∷ []) $ rewrite ! 0 (λ (y : R.Denot). ‵ (R.own_val y (u ∷ []))) e refl $ at_once ! $ done !))
