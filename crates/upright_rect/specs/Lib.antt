-- UprightRect: the upright rect that an outline fills. Calls: the public call.
pub mod UprightRect
pub mod Calls
