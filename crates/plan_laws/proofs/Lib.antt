pub mod PlanFacts
pub mod PlanFences
pub mod PlanEvents
pub mod EventRows
pub mod PageBounds
pub mod PlanRooms
pub mod Left
