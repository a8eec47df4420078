pub mod LastHead
