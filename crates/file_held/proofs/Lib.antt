pub mod HeldBytes
