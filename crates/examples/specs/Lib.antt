-- The examples P1 to P9 and what is claimed of them.
pub mod Examples
