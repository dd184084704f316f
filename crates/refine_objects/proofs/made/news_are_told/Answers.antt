use Rattle.refine_objects.proofs.StatedMade.{news_are_told}
use Rattle.refine_objects.proofs.made.news_are_told.Goals as goal

pub returns : goal.returns
returns c = news_are_told
