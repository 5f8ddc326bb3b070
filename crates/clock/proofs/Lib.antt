pub mod Laws
pub mod Methods
