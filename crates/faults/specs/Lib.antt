pub mod Numbers
pub mod Results
pub mod Texts
