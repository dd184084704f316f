-- What undoing does to a cluster, and what every call keeps.
use Rattle.std.proofs.Common.{◌≡◌, ◌≢◌, ◌∙◌, sym, ap, ap₂, subst, refl, ℕ, zero, suc, ◌+◌, ◌≤◌, arith, List, [], ◌∷◌}
use Rattle.std.proofs.Common.{◌++◌, length, map, drop, remove, replicate, get_or, slice_get, Some, None, All, le_trans}
use Rattle.std.proofs.Common.{le_refl}
use Rattle.std.proofs.lemmas.List.{take_at}
use Rattle.pisa_isa.specs.Image.{Segments, IsImage}
use Rattle.pisa_isa.specs.Machine.{IsState, IsCode, stop, next}
use Rattle.pisa_cluster.specs.declared.processor.Processor.{Processor}
use Rattle.pisa_cluster.specs.declared.processor.Kept.{Kept}
use Rattle.pisa_cluster.specs.declared.cluster.Moved.{Moved}
use Rattle.pisa_cluster.specs.declared.cluster.Moved.TheVariants.{Made, Stopped}
use Rattle.pisa_cluster.specs.declared.cluster.Undone.{Undone}
use Rattle.pisa_cluster.specs.declared.cluster.Undone.TheVariants.{Done, Nothing, Blocked}
use Rattle.pisa_cluster.specs.Replay.{Joint, processor_at, processor_state, touches, step_of, cstep, replay, StepGoes}
use Rattle.pisa_cluster.specs.Replay.{AllGo, makers}
use Rattle.pisa_cluster.specs.Replay.{started_processor, start_of_joint}
use Rattle.pisa_cluster.specs.Schedules.{Schedule, AreSerials, IsCluster, ProcessorMoves, LastOf, next_touch, IsFree}
use Rattle.pisa_cluster.specs.Schedules.{Undoes}
use Rattle.pisa_cluster.specs.Schedules.{rewound, Move, Step, Undo, Rewind, Performs, MovesLead}
use Rattle.pisa_cluster.proofs.Commuting.{behind, replay-append, all_go-append, all_go-split}
use Rattle.pisa_cluster.proofs.Keeping.{HasImages, AreWords, cstep-start, replay-start, start_of-begun, images_same}
use Rattle.pisa_cluster.proofs.Keeping.{start-words, replay-words, word_there, state_seen}

-- serial numbers
serials-weaker : (xs : List Kept) (from less below : ℕ) → less ≤ from → AreSerials from below xs
    → AreSerials less below xs
serials-weaker [] from less below le h = le_trans le h
serials-weaker (x ∷ xs) from less below le h = (le_trans le h.0, h.1)

serials-without : (xs ys : List Kept) (step : Kept) (from below : ℕ) → AreSerials from below (xs ++ step ∷ ys)
    → AreSerials from below (xs ++ ys)
serials-without [] ys step from below h = serials-weaker ys (step.serial + 1) from below (le_trans h.0 (omega arith))
    h.1
serials-without (x ∷ xs) ys step from below h = (h.0, serials-without xs ys step (x.serial + 1) below h.1)

serials-push : (xs : List Kept) (step : Kept) (from below : ℕ) → step.serial ≡ below → AreSerials from below xs
    → AreSerials from (below + 1) (xs ++ step ∷ [])
serials-push [] step from below same h = (omega (arith, same), omega (arith, same))
serials-push (x ∷ xs) step from below same h = (h.0, serials-push xs step (x.serial + 1) below same h.1)

serials-none : (xs : List Kept) (from below : ℕ) → AreSerials from below xs → from ≤ below
serials-none [] from below h = h
serials-none (x ∷ xs) from below h = let rest = serials-none xs (x.serial + 1) below h.1 in omega (arith, h.0, rest)

-- the start of a cluster is one, and so is that of what its steps lead to
start-start : (s : Joint) → start_of_joint (start_of_joint s) ≡ start_of_joint s
start-start s = start_of-begun (map (λ (p : Processor). p.image) s.processors) (length s.cells)

pub replayed-start : (s : Joint) (steps : List ℕ) → start_of_joint (replay (start_of_joint s) steps) ≡ start_of_joint s
replayed-start s steps = replay-start steps (start_of_joint s) ∙ start-start s

-- a cluster with this start and these kept steps
pub kept_cluster : (c : Schedule) (kept : List Kept) (next : ℕ) → HasImages c.joint
    → AllGo (start_of_joint c.joint) kept → AreSerials 1 next kept
    → IsCluster (record { joint = replay (start_of_joint c.joint) (makers kept); kept = kept; next_serial = next })
kept_cluster c kept next images follows serials =
    let same = replayed-start c.joint (makers kept) in
    record {
      images = images_same (replay (start_of_joint c.joint) (makers kept)) c.joint same images;
      follows = subst (λ s. AllGo s kept) (sym same) follows;
      leads = ap (λ s. replay s (makers kept)) same;
      serials = serials;
    }

-- taking back the last step of a processor
pub record Taken (c : Schedule) (earlier : List Kept) (step : Kept) (later : List Kept) : Type 0 where
  pub goes : StepGoes (replay (start_of_joint c.joint) (makers (earlier ++ later))) step
  pub leads : c.joint ≡ cstep (replay (start_of_joint c.joint) (makers (earlier ++ later))) step.who
  pub words : AreWords (replay (start_of_joint c.joint) (makers (earlier ++ later)))
  pub cluster : IsCluster (record c {
    joint = replay (start_of_joint c.joint) (makers (earlier ++ later));
    kept = earlier ++ later;
  })

pub taken : (c : Schedule) (who : ℕ) (last : LastOf who c.kept) → IsCluster c → next_touch last.step last.later ≡ None
    → Taken c last.earlier last.step last.later
taken c who last h free =
    let s = start_of_joint c.joint in
    let follows : AllGo s (last.earlier ++ last.step ∷ last.later) = subst (AllGo s) last.whole h.follows in
    let parts = all_go-split last.earlier (last.step ∷ last.later) s follows in
    let before = replay s (makers last.earlier) in
    let b = behind last.later before last.step parts.1.0 parts.1.1
    (subst (λ n. All (λ (k : Kept). k.who ≢ n) last.later) (sym last.own) last.last) free in
    let joined = replay-append last.earlier last.later s in
    let all = all_go-append last.earlier last.later s parts.0 b.follows in
    record {
      goes = subst (λ t. StepGoes t last.step) (sym joined) b.goes;
      leads =
          sym h.leads ∙ ap (λ k. replay s (makers k)) last.whole ∙ replay-append last.earlier (last.step ∷ last.later) s
          ∙ b.leads
          ∙ ap (λ t. cstep t last.step.who) (sym joined);
      words = replay-words (last.earlier ++ last.later) s all (start-words c.joint h.images);
      cluster = kept_cluster c (last.earlier ++ last.later) c.next_serial h.images all
          (serials-without last.earlier last.later last.step 1 c.next_serial
          (subst (AreSerials 1 c.next_serial) last.whole h.serials));
    }

-- a step that is made
pub made : (c : Schedule) (who : ℕ) (p : Processor) → processor_at c.joint who ≡ Some p
    → stop p.image.code (processor_state p c.joint.cells) ≡ None → IsCluster c
    → IsCluster (record {
      joint = cstep c.joint who;
      kept = c.kept
          ++ record { serial = c.next_serial; who = who; touched = touches p } ∷ [];
      next_serial = c.next_serial + 1;
    })
made c who p there goes h =
    let s = start_of_joint c.joint in
    let step : Kept = record { serial = c.next_serial; who = who; touched = touches p } in
    let g : StepGoes (replay s (makers c.kept)) step = subst (λ t. StepGoes t step) (sym h.leads)
    (record { processor = p; there = there; goes = goes; touched = refl }) in
    let all = all_go-append c.kept (step ∷ []) s h.follows (g, tt) in
    let leads : replay s (makers (c.kept ++ step ∷ [])) ≡ cstep c.joint who = replay-append c.kept (step ∷ []) s
    ∙ ap (λ t. cstep t who) h.leads in
    subst (λ t. IsCluster (record { joint = t; kept = c.kept ++ step ∷ []; next_serial = c.next_serial + 1 })) leads
    (kept_cluster c (c.kept ++ step ∷ []) (c.next_serial + 1) h.images all
    (serials-push c.kept step 1 c.next_serial refl h.serials))

pub rewound_cluster : (c : Schedule) → IsCluster c → IsCluster (rewound c)
rewound_cluster c h = kept_cluster c [] c.next_serial h.images tt (serials-none c.kept 1 c.next_serial h.serials)

-- the cluster at the start
pub begun_cluster : (processors : List Processor) (images : List Segments) (n : ℕ)
    → processors ≡ map started_processor images → All (λ (p : Processor). IsImage p.image) processors
    → IsCluster (record {
      joint = record { processors = processors; cells = replicate n 0 };
      kept = [];
      next_serial = 1;
    })
begun_cluster processors images n same h =
    let at_start : start_of_joint (record { processors = processors; cells = replicate n 0 })
    ≡ record { processors = processors; cells = replicate n 0 } =
    ap (λ ps. start_of_joint (record { processors = ps; cells = replicate n 0 })) same ∙ start_of-begun images n
    ∙ ap (λ ps. record { processors = ps; cells = replicate n 0 }) (sym same) in
    record { images = h; follows = tt; leads = at_start; serials = le_refl 1 }

-- the processor that made a step, and its states before and after it
pub record Back (c : Schedule) (s : Joint) (step : Kept) : Type 0 where
  pub place : ℕ
  pub numbered : step.who ≡ suc place
  pub processor : Processor
  pub there : slice_get s.processors place ≡ Some processor
  pub goes : stop processor.image.code (processor_state processor s.cells) ≡ None
  pub state : IsState (processor_state processor s.cells)
  pub code : IsCode processor.image.code
  pub led : c.joint ≡ step_of s place (Some processor)

back_of : (c : Schedule) (s : Joint) (step : Kept) (who : ℕ) (p : Processor) → step.who ≡ who
    → processor_at s who ≡ Some p → stop p.image.code (processor_state p s.cells) ≡ None → AreWords s
    → c.joint ≡ cstep s step.who
    → Back c s step
back_of c s step zero p same there goes words led = absurd (cc)
back_of c s step (suc i) p same there goes words led =
    let h = word_there s (suc i) p there words in
    record {
      place = i;
      numbered = same;
      processor = p;
      there = there;
      goes = goes;
      state = state_seen p s.cells h words.cells;
      code = h.is_image.is_code;
      led = led ∙ ap (cstep s) same ∙ ap (step_of s i) there;
    }

-- what is at the index of a step that is free, and how the processors are when it is undone
pub record FreeStep (c : Schedule) (at : ℕ) (kept : List Kept) : Type 0 where
  pub step : Kept
  pub there : (d : Kept) → get_or kept at d ≡ step
  pub back : Back c (replay (start_of_joint c.joint) (makers (remove kept at))) step
  pub cluster : IsCluster (record c {
    joint = replay (start_of_joint c.joint) (makers (remove kept at));
    kept = remove kept at;
  })

pub drop_next : (earlier later : List Kept) (step : Kept) (at : ℕ) → length earlier ≡ at
    → drop (suc at) (earlier ++ step ∷ later) ≡ later
drop_next [] later step at long = ap (λ n. drop (suc n) (step ∷ later)) (sym long)
drop_next (x ∷ earlier) later step at long = subst (λ n. drop (suc n) (x ∷ earlier ++ step ∷ later) ≡ later) long
    (drop_next earlier later step (length earlier) refl)

pub removed : (earlier later : List Kept) (step : Kept) (at : ℕ) → length earlier ≡ at
    → remove (earlier ++ step ∷ later) at ≡ earlier ++ later
removed earlier later step at long = ap₂ (λ (x y : List Kept). x ++ y) (take_at earlier (step ∷ later) at long)
    (drop_next earlier later step at long)

pub found_at : (earlier later : List Kept) (step d : Kept) (at : ℕ) → length earlier ≡ at
    → get_or (earlier ++ step ∷ later) at d ≡ step
found_at [] later step d at long = ap (λ n. get_or (step ∷ later) n d) (sym long)
found_at (x ∷ earlier) later step d at long = subst (λ n. get_or (x ∷ earlier ++ step ∷ later) n d ≡ step) long
    (found_at earlier later step d (length earlier) refl)

pub free_step : (c : Schedule) (at : ℕ) → IsCluster c → IsFree at c.kept → FreeStep c at c.kept
free_step c at h f =
    let last = f.last in
    let t = taken c f.who last h f.free in
    let same : remove c.kept at ≡ last.earlier ++ last.later = ap (λ k. remove k at) last.whole
    ∙ removed last.earlier last.later last.step at f.place in
    record {
      step = last.step;
      there = λ d. ap (λ k. get_or k at d) last.whole ∙ found_at last.earlier last.later last.step d at f.place;
      back = subst (λ k. Back c (replay (start_of_joint c.joint) (makers k)) last.step) (sym same)
          (back_of c (replay (start_of_joint c.joint) (makers (last.earlier ++ last.later))) last.step last.step.who
          t.goes.processor refl t.goes.there t.goes.goes t.words t.leads);
      cluster = subst (λ k. IsCluster (record c { joint = replay (start_of_joint c.joint) (makers k); kept = k }))
          (sym same) t.cluster;
    }

-- the law of moves
record Kept_by (c d : Schedule) : Type 0 where
  cluster : IsCluster d
  start : start_of_joint d.joint ≡ start_of_joint c.joint

unchanged : (c d : Schedule) → d ≡ c → IsCluster c → Kept_by c d
unchanged c d same h = record {
  cluster = subst IsCluster (sym same) h;
  start = ap (λ (x : Schedule). start_of_joint x.joint) same;
}

one_step : (who : ℕ) (answer : Moved) (c d : Schedule) → IsCluster c → ProcessorMoves who answer c d → Kept_by c d
one_step who (Stopped why) c d h m = unchanged c d m.stays h
one_step who (Made serial) c d h m = record {
  cluster = subst IsCluster (sym (m.leads ∙ ap (λ n. record {
    joint = cstep c.joint who;
    kept = c.kept ++ record
        { serial = n; who = who; touched = touches m.processor } ∷ [];
    next_serial = c.next_serial + 1;
  })
      m.numbered))
      (made c who m.processor m.there m.goes h);
  start = ap (λ (x : Schedule). start_of_joint x.joint) m.leads ∙ cstep-start c.joint who;
}

one_undo : (who : ℕ) (answer : Undone) (c d : Schedule) → IsCluster c → Undoes who answer c d → Kept_by c d
one_undo who Nothing c d h u = unchanged c d u.stays h
one_undo who (Blocked other at) c d h u = unchanged c d u.stays h
one_undo who (Done serial) c d h u = record {
  cluster = subst IsCluster (sym u.leads) (taken c who u.last h u.free).cluster;
  start = ap (λ (x : Schedule). start_of_joint x.joint) u.leads
      ∙ replayed-start c.joint (makers (u.last.earlier ++ u.last.later));
}

one_move : (move : Move) (c d : Schedule) → IsCluster c → Performs move c d → Kept_by c d
one_move (Step who) c d h p = one_step who p.0 c d h p.1
one_move (Undo who) c d h p = one_undo who p.0 c d h p.1
one_move Rewind c d h p = record {
  cluster = subst IsCluster (sym p) (rewound_cluster c h);
  start = ap (λ (x : Schedule). start_of_joint x.joint) p ∙ start-start c.joint;
}

all_moves : (moves : List Move) (c d : Schedule) → IsCluster c → MovesLead moves c d → Kept_by c d
all_moves [] c d h l = unchanged c d l h
all_moves (move ∷ moves) c d h l =
    let first = one_move move c l.0 h l.1 in
    let rest = all_moves moves l.0 d first.cluster l.2 in
    record { cluster = rest.cluster; start = rest.start ∙ first.start }

pub schedules_keep : (moves : List Move) (c d : Schedule) → IsCluster c → MovesLead moves c d → IsCluster d
schedules_keep moves c d h l = (all_moves moves c d h l).cluster

pub schedules_start : (moves : List Move) (c d : Schedule) → IsCluster c → MovesLead moves c d
    → start_of_joint d.joint ≡ start_of_joint c.joint
schedules_start moves c d h l = (all_moves moves c d h l).start
