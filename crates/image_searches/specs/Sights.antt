-- What moves look for, as it is kept.
use Rattle.image_searches.specs.declared.goals.Aim.{Aim}
use Rattle.image_searches.specs.Goals.{Sought}

abbrev pub sought_in : Aim → Sought
sought_in aim = record { places = aim.places.items; watch = aim.watch; from = aim.from }
