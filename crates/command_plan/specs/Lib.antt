pub use Rattle.pisa_scripts.specs.rpp_words
pub use Rattle.rpp_ports.specs as rpp_ports
pub use Rattle.pisa_loader.specs.rpp_probes
pub use Rattle.class_table.specs.rpp_tree
pub use Rattle.class_table.specs.class_rules
pub use Rattle.pisa_loader.specs.pisa_image
pub use Rattle.pisa_asm.specs as pisa_asm
pub use Rattle.pisa_loader.specs as pisa_loader
pub use Rattle.pisa_scripts.specs as pisa_scripts
pub use Rattle.command_ends.specs as command_ends
pub mod Refusals
pub mod Texts
pub mod Plans
pub mod Files
pub mod Reads
