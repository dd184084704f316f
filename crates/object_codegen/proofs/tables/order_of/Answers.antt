use Rattle.object_codegen.proofs.Classes.{order_is}
use Rattle.object_codegen.proofs.tables.order_of.Goals as goal

pub returns : goal.returns
returns c = order_is c.args.fields c.order_for.result c.requires c.order_for.ensures
