-- What a file store of texts in memory shows.
use Rattle.std.specs.Prelude.{List}
use Rattle.command_plan.specs.rpp_ports.Ports.{Texts}
use Rattle.command_plan.specs.rpp_ports.Events.{Event}
use Rattle.command_plan.specs.rpp_ports.Shelves.{shelf_texts, shelf_events}
use Rattle.plan_serving.specs.declared.held_shelf.HeldShelf.{HeldShelf}

-- the text of each name
abbrev pub held_texts : HeldShelf → Texts
held_texts held = shelf_texts held.shelf

-- its calls with their answers, the last one first
abbrev pub held_events : HeldShelf → List Event
held_events held = shelf_events held.shelf
