-- What a cluster prints: a line for each event, and then how it ends.
use Rattle.std.specs.Prelude.{◌≡◌, ℕ, zero, suc, nat_eq, if◌then◌else◌, List, [], ◌∷◌, ◌++◌, length}
use Rattle.std.specs.Prelude.{Option, Some, None, codes}
use Rattle.std.specs.Fmt.{decimal, signed_decimal}
use Rattle.command_plan.specs.rpp_words.Texts.{line_end}
use Rattle.pisa_cluster.specs.pisa_isa.declared.machine.Stop.{Stop}
use Rattle.pisa_cluster.specs.pisa_isa.declared.machine.Core.{Core}
use Rattle.pisa_cluster.specs.pisa_isa.Image.{Segments}
use Rattle.command_plan.specs.pisa_scripts.Words.{word_shown, direction, cell_line}
use Rattle.command_plan.specs.pisa_scripts.Stops.{stop_line}
use Rattle.pisa_cluster.specs.declared.processor.Processor.{Processor}
use Rattle.pisa_cluster.specs.declared.cluster.Moved.{Moved}
use Rattle.pisa_cluster.specs.declared.cluster.Moved.TheVariants.{Made, Stopped}
use Rattle.pisa_cluster.specs.declared.cluster.Undone.{Undone}
use Rattle.pisa_cluster.specs.declared.cluster.Undone.TheVariants.{Done, Nothing, Blocked}
use Rattle.pisa_cluster.specs.Schedules.{Schedule, first_schedule, ProcessorMoves, Undoes, rewound}
use Rattle.cluster_commands.specs.declared.script.Event.{Event}
use Rattle.cluster_commands.specs.declared.script.Event.TheVariants.{Step, Undo, Rewind}

-- what follows a step with this result: no more steps after a stop
abbrev pub AfterStep : ((made : ℕ) → Option Stop → (d e : Schedule) → Type 0) → Moved → (made : ℕ)
    → Option Stop → (d e : Schedule) → Type 0
AfterStep More (Stopped why) made stop d e = (made ≡ 0) × (stop ≡ Some why) × (e ≡ d)
AfterStep More (Made serial) made stop d e = (more : ℕ) × (made ≡ suc more) × More more stop d e

-- up to so many steps of a processor, up to a stop: how many were made, and why it stopped, if it
-- did
abbrev pub MakesSteps : (who wanted : ℕ) → (made : ℕ) → Option Stop → (c e : Schedule) → Type 0
MakesSteps who zero made stop c e = (made ≡ 0) × (stop ≡ None) × (e ≡ c)
MakesSteps who (suc wanted) made stop c e =
    (answer : Moved) × (d : Schedule) × ProcessorMoves who answer c d
    × AfterStep (MakesSteps who wanted) answer made stop d e

abbrev pub stop_shown : Option Stop → List ℕ
stop_shown None = line_end
stop_shown (Some why) = codes " " ++ stop_line why

abbrev pub made_line : ℕ → Option Stop → List ℕ
made_line made stop = (codes "made " ++ decimal made) ++ stop_shown stop

abbrev pub undone_line : Undone → List ℕ
undone_line (Done serial) = codes "undone " ++ (decimal serial ++ line_end)
undone_line Nothing = codes "nothing" ++ line_end
undone_line (Blocked who serial) =
    codes "blocked by " ++ (decimal who ++ (codes " at " ++ (decimal serial ++ line_end)))

abbrev pub rewound_line : ℕ → List ℕ
rewound_line count = codes "rewound " ++ (decimal count ++ line_end)

-- steps that were made, and their line
pub record StepsShown (who wanted : ℕ) (c : Schedule) (line : List ℕ) (d : Schedule) : Type 0 where
  pub made : ℕ
  pub stop : Option Stop
  pub makes : MakesSteps who wanted made stop c d
  pub shown : line ≡ made_line made stop

-- an undoing, and its line
pub record UndoShown (who : ℕ) (c : Schedule) (line : List ℕ) (d : Schedule) : Type 0 where
  pub answer : Undone
  pub undoes : Undoes who answer c d
  pub shown : line ≡ undone_line answer

-- where an event leads, and its line
abbrev pub Shows : Event → Schedule → (line : List ℕ) → Schedule → Type 0
Shows (Step who count) c line d = StepsShown who count c line d
Shows (Undo who) c line d = UndoShown who c line d
Shows Rewind c line d = (line ≡ rewound_line (length c.kept)) × (d ≡ rewound c)

-- events, one after the other
abbrev pub ShowsAll : List Event → Schedule → (text : List ℕ) → Schedule → Type 0
ShowsAll [] c text e = (text ≡ []) × (e ≡ c)
ShowsAll (event ∷ events) c text e =
    (line : List ℕ) × (rest : List ℕ) × (d : Schedule) × Shows event c line d
    × ShowsAll events d rest e × (text ≡ line ++ rest)

abbrev pub kept_step_line : ℕ → List ℕ
kept_step_line count = codes "kept " ++ (decimal count ++ line_end)

abbrev pub processor_line : (number : ℕ) → Core → List ℕ
processor_line number core =
    codes "processor " ++ (decimal number
    ++ (codes " pc " ++ (signed_decimal core.pc
    ++ (codes " br " ++ (word_shown core.br
    ++ (codes " dir " ++ (direction core.back ++ line_end)))))))

-- processors from a number on
abbrev pub processor_lines : (number : ℕ) → List Processor → List ℕ
processor_lines number [] = []
processor_lines number (p ∷ ps) = processor_line number p.core ++ processor_lines (suc number) ps

-- a cell, unless it is 0
abbrev pub filled_line : (number word : ℕ) → List ℕ
filled_line number word = if nat_eq word 0 then [] else cell_line number word

-- cells from a number on that are not 0
abbrev pub filled_lines : (number : ℕ) → List ℕ → List ℕ
filled_lines number [] = []
filled_lines number (word ∷ words) = filled_line number word ++ filled_lines (suc number) words

-- the state of a cluster
abbrev pub schedule_end_shown : Schedule → List ℕ
schedule_end_shown c = (kept_step_line (length c.kept) ++ processor_lines 1 c.joint.processors)
    ++ filled_lines 0 c.joint.cells

-- what events print from the start on, and then the state of the cluster
pub record IsShown (images : List Segments) (cells : ℕ) (events : List Event)
    (text : List ℕ) : Type 0 where
  pub lines : List ℕ
  pub end : Schedule
  pub shows : ShowsAll events (first_schedule images cells) lines end
  pub whole : text ≡ lines ++ schedule_end_shown end
