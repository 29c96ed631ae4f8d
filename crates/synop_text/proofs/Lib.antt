-- Laws of groups and kinds.
mod Cuts
mod Lengths
