pub mod Rule
pub mod Test
pub mod Search
