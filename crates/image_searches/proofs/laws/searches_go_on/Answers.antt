use Rattle.image_searches.proofs.GoingOn.{searches_go_on}
use Rattle.image_searches.proofs.laws.searches_go_on.Goals as goal

pub returns : goal.returns
returns c = searches_go_on
