pub mod ServedAlone
pub mod HeardSo
