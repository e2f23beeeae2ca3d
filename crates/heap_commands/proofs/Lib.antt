mod BinaryLoads
mod PartLoads
mod RootLoads
