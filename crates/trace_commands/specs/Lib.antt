pub mod TracePlans
