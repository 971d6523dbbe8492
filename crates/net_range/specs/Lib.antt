pub mod RuledLines
pub mod LinesInRange
