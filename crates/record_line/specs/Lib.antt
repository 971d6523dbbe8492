pub mod RecordForm
pub mod RecordReading
