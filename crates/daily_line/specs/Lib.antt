-- What the functions of `means` and of `rain` answer; the rules are `daily`'s.
pub mod MeanParts
pub mod RainParts
