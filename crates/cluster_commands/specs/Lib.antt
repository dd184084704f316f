pub mod ClusterScripts
pub mod ClusterShown
pub mod ClusterPlans
