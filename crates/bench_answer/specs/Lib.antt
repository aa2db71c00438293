pub mod BenchBytes
