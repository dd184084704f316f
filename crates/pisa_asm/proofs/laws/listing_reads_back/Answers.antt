use Rattle.pisa_asm.proofs.Relisting.{listing_read}
use Rattle.pisa_asm.proofs.laws.listing_reads_back.Goals as goal

pub returns : goal.returns
returns c = listing_read
