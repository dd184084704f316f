use Rattle.meaning_points.proofs.Growing.{points_added, points_done, points_fault}
use Rattle.meaning_points.proofs.laws.more_fuel_adds.Goals as goal

pub returns : goal.returns
returns c = record { adds = points_added; done = points_done; fault = points_fault }
