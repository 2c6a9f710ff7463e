pub mod FlowTests
