pub mod Stream
pub mod Workload
pub mod WorkloadOrder
pub mod Servers
pub mod Judged
pub mod Counters
