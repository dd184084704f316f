-- `note` has an empty body: the borrow of the list is opened, and closed at one event more.
use Rattle.std.proofs.Common.{List, [], ◌∷◌, refl}
use Rattle.std.proofs.raw_atomic.Walks.{proved}
use base.Fml.{ftrue, flft}
use base.Logic.{id⊢}
use mir.Syntax.{named}
use mir.Val.{Val, vunit, vptr}
use types.Kit.{‵, ◌⊛◌, ◌$◌, ◌∵◌, !, qed, move, keep, use1, split, join, fsplit, fsplit3, fjoin, fjoin3, feq_i, suffices}
use types.Kit.{frame, done}
use types.Run.{unit_lit, of_opd, returns, enter}
use types.ByLocal.{alloc_all, pass_all, free_all, look_at, sets}
use denote.Builtin.{RefOf}
use denote.Exit.{yes}
use denote.RattleType.{owns}
use denote.Ref.{mut_vals, mut_Tells, shr_vals, shr_Tells}
use denote.Signature.{plain, types_at, named_lft}
use denote.Steps.{nothing, opens, closes}
use denote.Triple.Walked.{Stays, says, ends_at, walk_of, stay_ref, stay_dropped, Goes-ref, Goes-dropped}
use Rattle.live_port.specs.Notes.{heard_of}
use Rattle.live_port.specs.declared.trail.Trail.{Trail}
use Rattle.live_port.specs.contracts.trail.Trail.{the_row as R}
use Rattle.live_port.specs.contracts.trail.Note as Noted
use Rattle.live_port.specs.contracts.trail.Trail.note as f
use Rattle.live_port.proofs.trail.Trail.note.Statement.{statement}
use Rattle.live_port.proofs.trail.Trail.note.Code as code

abbrev stayed : Stays f.ended.signature.params f.ended.kept
stayed = (
  stay_ref (0 ∷ []) tt (plain (λ _. R)),
  (stay_dropped (RefOf (1 ∷ []) tt (plain (λ κs. Noted.the_row (named_lft 3 2 tt κs))) (λ _. tt)) yes, tt),
)

pub note_spec : {M : Type 1} → statement M
note_spec 𝓤 𝓛 𝓜 𝓡 wired =
    let c = f.clauses 𝓛 𝓜.mem 𝓡.returns in let W = walk_of 𝓛 f.ended stayed c in
    proved 𝓛 f.ended stayed c 𝓜 𝓡 (
      Goes-ref 𝓛 3 0 tt (plain (λ _. R)),
      (
        Goes-dropped 𝓛 3
            (RefOf (1 ∷ []) tt (plain (λ κs. Noted.the_row (named_lft 3 2 tt κs))) (λ _. tt)) yes (λ κs x w. refl),
        tt,
      ),
    )
    f.Key.name code.function (code.unfolded 𝓤 𝓛.H 𝓜 𝓡 wired)
    (λ κs. (mut_vals, (shr_vals, tt)))
    (λ κs. (mut_Tells (named 0) κs.0 R, (shr_Tells (named 1) κs.1.0 (Noted.the_row (named_lft 3 2 tt κs)), tt)))
    (λ κs qs bounds a g are.
    let b = a.0.ref_ptr.0 in let o = a.0.ref_ptr.1 in let h = a.0.now in
    let h' : Trail = record { marker = h.marker; events = heard_of a.1.0.now ∷ h.events } in
    let y : W.Ghost = ((κs, qs, bounds, a, (mut_vals a.0, (shr_vals a.1.0, tt))), tt) in
    qed 𝓛 (((‵ (flft κs.0 qs.0) ⊛ (‵ (flft κs.1.0 qs.1.0) ⊛ (‵ (flft κs.1.1.0 qs.1.1.0) ⊛ ‵ ftrue))) ⊛ ‵
    (owns (types_at f.signature.params κs) a y.0.4)) ∷ ‵ ftrue ∷ []) ∵
    split ! $ split ! $ move ! (2 ∷ []) $ fsplit ! $ fsplit3 ! $ keep ! (1 ∷ 2 ∷ 4 ∷ 5 ∷ []) $
    enter ! _ _ _ _ _ $ alloc_all ! (λ l. pass_all ! refl ((tt, tt), ((tt, tt), tt)) $
    -- [the value of the borrow; the borrow; its token; the other tokens]
    opens ! tt R {h = h} b o (λ us.
    sets ! (of_opd ! (unit_lit !)) refl (tt, tt) $
    move ! (1 ∷ []) $ use1 𝓛 (‵ (R.own_val h' us)) (id⊢ 𝓤 _) $ move ! (1 ∷ 0 ∷ []) $ closes ! tt R h' us b o $
    returns ! (look_at ! 0 refl) $ free_all ! refl $
    suffices ! _ (ends_at 𝓛 f.ended stayed c y vunit tt (h', (tt, tt)) (tt, (tt, tt))) $ says ! refl $
    move ! (2 ∷ 3 ∷ []) $ join ! $ frame ! $
    nothing ! $ nothing ! $ fjoin ! $ move ! (1 ∷ 2 ∷ 0 ∷ []) $
    feq_i ! (List Val) (vptr b o ∷ []) (vptr b o ∷ []) refl $ fjoin3 ! $ fjoin ! $
    feq_i ! (List Val) (vunit ∷ []) (vunit ∷ []) refl $ move ! (1 ∷ 0 ∷ []) $ done !)))
