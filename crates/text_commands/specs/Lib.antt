pub mod TextPlans
