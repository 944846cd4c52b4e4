pub mod GeneratedLoad
