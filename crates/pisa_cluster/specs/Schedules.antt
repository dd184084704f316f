-- Clusters, and where their calls lead.
use Rattle.std.specs.Prelude.{◌≡◌, ◌≢◌, ◌≤◌, ◌+◌, ℕ, Bool, false, nat_eq, List, [], ◌∷◌, ◌++◌}
use Rattle.std.specs.Prelude.{length, find, Option, Some, None}
use Rattle.std.specs.List.{All}
use Rattle.pisa_isa.specs.declared.machine.Stop.{Stop}
use Rattle.pisa_isa.specs.Image.{Segments, IsImage}
use Rattle.pisa_isa.specs.Machine.{stop}
use Rattle.pisa_cluster.specs.declared.processor.Processor.{Processor}
use Rattle.pisa_cluster.specs.declared.processor.Kept.{Kept}
use Rattle.pisa_cluster.specs.declared.cluster.Moved.{Moved}
use Rattle.pisa_cluster.specs.declared.cluster.Moved.TheVariants.{Made, Stopped}
use Rattle.pisa_cluster.specs.declared.cluster.Undone.{Undone}
use Rattle.pisa_cluster.specs.declared.cluster.Undone.TheVariants.{Done, Nothing, Blocked}
use Rattle.pisa_cluster.specs.Replay.{Joint, joint_begun, processor_at, processor_state, touches, cstep, replay}
use Rattle.pisa_cluster.specs.Replay.{AllGo, makers, start_of_joint}

-- what contracts see of a cluster: its state, its kept steps in order, and the serial number of the
-- next one
pub record Schedule : Type 0 where
  pub joint : Joint
  pub kept : List Kept
  pub next_serial : ℕ

-- the cluster of these images on so many cells, at its start
abbrev pub first_schedule : List Segments → (cells : ℕ) → Schedule
first_schedule images cells = record { joint = joint_begun images cells; kept = []; next_serial = 1 }

-- serial numbers from one on, each greater than those before it, and all below another
abbrev pub AreSerials : (from below : ℕ) → List Kept → Type 0
AreSerials from below [] = from ≤ below
AreSerials from below (step ∷ rest) = (from ≤ step.serial) × AreSerials (step.serial + 1) below rest

-- what every cluster keeps: its state is the replay of its start over the kept steps in order, no
-- step of the replay is a stop, and each touches what is noted
pub record IsCluster (c : Schedule) : Type 0 where
  pub images : All (λ (p : Processor). IsImage p.image) c.joint.processors
  pub follows : AllGo (start_of_joint c.joint) c.kept
  pub leads : replay (start_of_joint c.joint) (makers c.kept) ≡ c.joint
  pub serials : AreSerials 1 c.next_serial c.kept

-- a step of a processor is made, and kept as the last one
pub record IsStepMade (who : ℕ) (serial : ℕ) (c d : Schedule) : Type 0 where
  pub processor : Processor
  pub there : processor_at c.joint who ≡ Some processor
  pub goes : stop processor.image.code (processor_state processor c.joint.cells) ≡ None
  pub numbered : serial ≡ c.next_serial
  pub leads : d ≡ record {
    joint = cstep c.joint who;
    kept = c.kept ++ record { serial = serial; who = who; touched = touches processor } ∷ [];
    next_serial = c.next_serial + 1;
  }

-- a processor is at a stop, and nothing changes
pub record IsAtStop (who : ℕ) (why : Stop) (c d : Schedule) : Type 0 where
  pub processor : Processor
  pub there : processor_at c.joint who ≡ Some processor
  pub stops : stop processor.image.code (processor_state processor c.joint.cells) ≡ Some why
  pub stays : d ≡ c

-- one step of a processor
abbrev pub ProcessorMoves : (who : ℕ) → Moved → (c d : Schedule) → Type 0
ProcessorMoves who (Made serial) c d = IsStepMade who serial c d
ProcessorMoves who (Stopped why) c d = IsAtStop who why c d

-- the last kept step of a processor, those before it and those after it
pub record LastOf (who : ℕ) (kept : List Kept) : Type 0 where
  pub earlier : List Kept
  pub step : Kept
  pub later : List Kept
  pub whole : kept ≡ earlier ++ step ∷ later
  pub own : step.who ≡ who
  pub last : All (λ (k : Kept). k.who ≢ who) later

abbrev pub is_same_cell : Option ℕ → Option ℕ → Bool
is_same_cell (Some a) (Some b) = nat_eq a b
is_same_cell _ _ = false

-- the first step of a list that touches the cell which a step touches
abbrev pub next_touch : Kept → List Kept → Option Kept
next_touch step later = find (λ (k : Kept). is_same_cell step.touched k.touched) later

-- the step at a place of the kept ones is its processor's last one, and no later step touched its
-- cell
pub record IsFree (at : ℕ) (kept : List Kept) : Type 0 where
  pub who : ℕ
  pub last : LastOf who kept
  pub place : length last.earlier ≡ at
  pub free : next_touch last.step last.later ≡ None

-- the last step of a processor is undone: the state is the replay of the start over the others
pub record IsTakenBack (who serial : ℕ) (c d : Schedule) : Type 0 where
  pub last : LastOf who c.kept
  pub free : next_touch last.step last.later ≡ None
  pub numbered : serial ≡ last.step.serial
  pub leads : d ≡ record c {
    joint = replay (start_of_joint c.joint) (makers (last.earlier ++ last.later));
    kept = last.earlier ++ last.later;
  }

-- a later step of another processor touched the same cell, and nothing changes
pub record IsBlocked (who other serial : ℕ) (c d : Schedule) : Type 0 where
  pub last : LastOf who c.kept
  pub step : Kept
  pub touches : next_touch last.step last.later ≡ Some step
  pub maker : other ≡ step.who
  pub numbered : serial ≡ step.serial
  pub stays : d ≡ c

-- no step of a processor is kept, and nothing changes
pub record IsUnmoved (who : ℕ) (c d : Schedule) : Type 0 where
  pub none : All (λ (k : Kept). k.who ≢ who) c.kept
  pub stays : d ≡ c

-- the undoing of the last step of a processor
abbrev pub Undoes : (who : ℕ) → Undone → (c d : Schedule) → Type 0
Undoes who (Done serial) c d = IsTakenBack who serial c d
Undoes who Nothing c d = IsUnmoved who c d
Undoes who (Blocked other serial) c d = IsBlocked who other serial c d

-- the start, with no kept step
abbrev pub rewound : Schedule → Schedule
rewound c = record c { joint = start_of_joint c.joint; kept = [] }

-- what can be asked of a cluster
pub data Move : Type 0 where
  Step : (who : ℕ) → Move
  Undo : (who : ℕ) → Move
  Rewind : Move

-- a move leads from a cluster to another, whatever it returns
abbrev pub Performs : Move → (c d : Schedule) → Type 0
Performs (Step who) c d = (answer : Moved) × ProcessorMoves who answer c d
Performs (Undo who) c d = (answer : Undone) × Undoes who answer c d
Performs Rewind c d = d ≡ rewound c

-- so do the moves of a list, one after the other
abbrev pub MovesLead : List Move → (c d : Schedule) → Type 0
MovesLead [] c d = d ≡ c
MovesLead (move ∷ moves) c d = (e : Schedule) × Performs move c e × MovesLead moves e d
