pub mod Reading
pub mod StepsOn
pub mod EventsOn
pub mod Lines
pub mod ImagesOn
pub mod TextsOn
pub mod ClusterTargets
