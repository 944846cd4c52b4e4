pub use Rattle.ebc_listing.specs.Listing
pub mod Assembly
